-- OPT has no text of its own: its options in their order, in the unknown-data form (RFC 6891, 6.1.2; RFC 3597, 5).
use Rattle.std.specs.Prelude.{ℕ, List, flat_map, take}
use Rattle.dns_fields.specs.Tlvs.{tlv, as_tlv, option_octets, Subnet}
use Rattle.dns_rdata_options.specs.{ClientSubnet.prefix_octets, OPT.Pair, OPT.pair_value}
use Rattle.dns_rdata_zone.specs.Generic.{generic}

-- a subnet of a family, with the octets of the address that the source prefix needs (RFC 7871, 6)
abbrev pub subnet_octets : ℕ → ℕ → ℕ → List ℕ → List ℕ
subnet_octets family source scope address =
    option_octets (Subnet family source scope (take (prefix_octets source) address))

-- code, length and octets of an option
abbrev pub pair_octets : Pair → List ℕ
pair_octets p = tlv (as_tlv option_octets (pair_value p))

abbrev pub options_octets : List Pair → List ℕ
options_octets pairs = flat_map pair_octets pairs

abbrev pub zone_options : List Pair → List ℕ
zone_options pairs = generic (options_octets pairs)
