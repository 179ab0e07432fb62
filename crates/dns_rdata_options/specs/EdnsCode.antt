-- The codes of EDNS options: the numbers of the variants (RFC 6891, 9). One with a number of its own inside has that
-- number.
use Rattle.std.specs.Prelude.{ℕ, List, [], ◌∷◌}
use Rattle.dns_rdata_base.specs.Numbered.{numbered_of}
use Rattle.dns_rdata_options.specs.declared.opt.code.EdnsCode.{EdnsCode}
use Rattle.dns_rdata_options.specs.declared.opt.code.EdnsCode.TheVariants.{Zero, LLQ, UL, NSID, DAU, DHU, N3U, Subnet, Expire, Cookie, Keepalive}
use Rattle.dns_rdata_options.specs.declared.opt.code.EdnsCode.TheVariants.{Padding, Chain, Unknown}

abbrev pub edns_code_number : EdnsCode → ℕ
edns_code_number Zero = 0
edns_code_number LLQ = 1
edns_code_number UL = 2
edns_code_number NSID = 3
edns_code_number DAU = 5
edns_code_number DHU = 6
edns_code_number N3U = 7
edns_code_number Subnet = 8
edns_code_number Expire = 9
edns_code_number Cookie = 10
edns_code_number Keepalive = 11
edns_code_number Padding = 12
edns_code_number Chain = 13
edns_code_number (Unknown n) = n

-- the rank in the declaration
abbrev pub edns_code_variant : EdnsCode → ℕ
edns_code_variant Zero = 0
edns_code_variant LLQ = 1
edns_code_variant UL = 2
edns_code_variant NSID = 3
edns_code_variant DAU = 4
edns_code_variant DHU = 5
edns_code_variant N3U = 6
edns_code_variant Subnet = 7
edns_code_variant Expire = 8
edns_code_variant Cookie = 9
edns_code_variant Keepalive = 10
edns_code_variant Padding = 11
edns_code_variant Chain = 12
edns_code_variant (Unknown n) = 13

abbrev pub named_edns_codes : List EdnsCode
named_edns_codes =
    Zero ∷ LLQ ∷ UL ∷ NSID ∷ DAU ∷ DHU ∷ N3U ∷ Subnet ∷ Expire ∷ Cookie ∷ Keepalive ∷ Padding ∷ Chain ∷ []

-- what has no number above
abbrev pub other_edns_code : ℕ → EdnsCode
other_edns_code n = Unknown n

-- the variant that a number gives
unfoldable pub edns_code_of : ℕ → EdnsCode
edns_code_of = numbered_of edns_code_number named_edns_codes other_edns_code
