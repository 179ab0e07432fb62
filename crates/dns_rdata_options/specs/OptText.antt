-- The text of options, for people.
use Rattle.std.specs.Prelude.{ℕ, ◌/◌, ◌%◌, false, List, [], ◌∷◌, ◌++◌, flat_map, codes, decimal}
use Rattle.std.specs.{Net.Text.ip_text, Fmt.digits}
use Rattle.dns_rdata_options.specs.declared.opt.code.EdnsCode.{TheVariants.Unknown, EdnsCode}
use Rattle.dns_rdata_options.specs.{declared.opt.option.EdnsOption.EdnsOption, OPT.Pair}
use Rattle.dns_rdata_options.specs.declared.opt.code.EdnsCode.TheVariants.{Zero, LLQ, UL, NSID, DAU, DHU, N3U, Subnet}
use Rattle.dns_rdata_options.specs.declared.opt.code.EdnsCode.TheVariants.{Expire, Cookie, Keepalive, Padding, Chain}
use Rattle.dns_rdata_options.specs.declared.opt.option.EdnsOption.TheVariants as option

-- the names of IANA's registry "DNS EDNS0 Option Codes (OPT)" in lower case, with `ecs` for edns-client-subnet and
-- `keepalive` for edns-tcp-keepalive; or `option` and the number
abbrev pub code_name : EdnsCode → List ℕ
code_name Zero = codes "option0"
code_name LLQ = codes "llq"
code_name UL = codes "ul"
code_name NSID = codes "nsid"
code_name DAU = codes "dau"
code_name DHU = codes "dhu"
code_name N3U = codes "n3u"
code_name Subnet = codes "ecs"
code_name Expire = codes "expire"
code_name Cookie = codes "cookie"
code_name Keepalive = codes "keepalive"
code_name Padding = codes "padding"
code_name Chain = codes "chain"
code_name (Unknown n) = codes "option" ++ decimal n

-- two digits for each octet, in lower case
abbrev pub hex_text : List ℕ → List ℕ
hex_text octets = flat_map (λ octet. digits 16 false (octet / 16) ++ digits 16 false (octet % 16)) octets

-- a subnet is the address, the source prefix and the scope prefix; any other option is its octets
abbrev pub content_text : EdnsOption → List ℕ
content_text (option.Subnet x) =
    ip_text x.address ++ codes "/" ++ decimal x.source_prefix ++ codes "/" ++ decimal x.scope_prefix
content_text (option.NSID octets) = hex_text octets
content_text (option.Unknown n octets) = hex_text octets

abbrev pub pair_text : Pair → List ℕ
pair_text p = code_name p.0 ++ codes "=" ++ content_text p.1

-- an option after another
abbrev pub further_text : Pair → List ℕ
further_text p = codes " " ++ pair_text p

-- the options in their order, a blank between two
abbrev pub opt_text : List Pair → List ℕ
opt_text [] = []
opt_text (p ∷ pairs) = pair_text p ++ flat_map further_text pairs
