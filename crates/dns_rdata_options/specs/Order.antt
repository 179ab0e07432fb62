-- When records of options are equal, their order, and what they feed a hasher: all in the rising order of their pairs.
-- How codes, subnets, payloads and options themselves are ordered.
use Rattle.std.specs.declared.net.ip_addr.IpAddr.{TheVariants.V4, TheVariants.V6, IpAddr}
use Rattle.std.specs.declared.cmp.Ordering.{TheVariants.Less, TheVariants.Greater, Ordering}
use Rattle.std.specs.Ordering.{nat_cmp, then_cmp, ordering_then, eq_of_both}
use Rattle.std.specs.{Cmp.Lexicographic.pointwise, Cmp.Lexicographic.slice_cmp, Prelude.ℕ, Prelude.Bool, Prelude.List}
use Rattle.dns_rdata_options.specs.declared.opt.option.EdnsOption.TheVariants.{Subnet, NSID, Unknown}
use Rattle.dns_rdata_options.specs.{EdnsCode.edns_code_number, EdnsCode.edns_code_variant, ClientSubnet.address_octets}
use Rattle.dns_rdata_options.specs.declared.opt.{subnet.ClientSubnet.ClientSubnet, code.EdnsCode.EdnsCode}
use Rattle.dns_rdata_options.specs.{declared.opt.option.EdnsOption.EdnsOption, OPT.Pair, OPT.code_eq}
use Rattle.dns_fields.specs.Sorting.{sorted}
use Rattle.dns_rdata_base.specs.Numbered.{numbered_cmp}
use Rattle.dns_rdata_options.specs.contracts.opt.option.EdnsOptionPartialEq.TheImpl as equal_options
use Rattle.dns_rdata_options.specs.contracts.opt.option.EdnsOptionOrd.TheImpl as ordered_options

-- codes by number and then variant
abbrev pub code_cmp : EdnsCode → EdnsCode → Ordering
code_cmp = numbered_cmp edns_code_number edns_code_variant

-- IPv4 before IPv6, and of one family by the first octet that differs
abbrev pub address_cmp : IpAddr → IpAddr → Ordering
address_cmp (V4 a) (V6 b) = Less
address_cmp (V6 a) (V4 b) = Greater
address_cmp a b = slice_cmp nat_cmp (address_octets a) (address_octets b)

-- by address, then by source prefix, then by scope prefix
abbrev pub subnet_cmp : ClientSubnet → ClientSubnet → Ordering
subnet_cmp a b = ordering_then (address_cmp a.address b.address)
    (ordering_then (nat_cmp a.source_prefix b.source_prefix) (nat_cmp a.scope_prefix b.scope_prefix))

-- by the first octet that differs; a proper beginning comes first
abbrev pub payload_cmp : List ℕ → List ℕ → Ordering
payload_cmp = slice_cmp nat_cmp

-- subnets, then payloads of NSID, then all others, which go by number and then by their octets
abbrev pub option_cmp : EdnsOption → EdnsOption → Ordering
option_cmp (Subnet a) (Subnet b) = subnet_cmp a b
option_cmp (Subnet a) (NSID b) = Less
option_cmp (Subnet a) (Unknown m t) = Less
option_cmp (NSID a) (Subnet b) = Greater
option_cmp (NSID a) (NSID b) = payload_cmp a b
option_cmp (NSID a) (Unknown m t) = Less
option_cmp (Unknown n s) (Subnet b) = Greater
option_cmp (Unknown n s) (NSID b) = Greater
option_cmp (Unknown n s) (Unknown m t) = ordering_then (nat_cmp n m) (payload_cmp s t)

abbrev pub pair_eq : Pair → Pair → Bool
pair_eq = eq_of_both (λ p q. code_eq p.0 q.0) (λ p q. equal_options.ghosts.eq p.1 q.1)

-- by code, and then by option
abbrev pub pair_cmp : Pair → Pair → Ordering
pair_cmp = then_cmp (λ p q. code_cmp p.0 q.0) (λ p q. ordered_options.ghosts.cmp p.1 q.1)

abbrev pub risen : List Pair → List Pair
risen x = sorted pair_cmp x

abbrev pub opt_eq : List Pair → List Pair → Bool
opt_eq a b = pointwise pair_eq (risen a) (risen b)

abbrev pub opt_cmp : List Pair → List Pair → Ordering
opt_cmp a b = slice_cmp pair_cmp (risen a) (risen b)
