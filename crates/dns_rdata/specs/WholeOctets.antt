-- The uncompressed octets of RDATA: names uncompressed with case preserved, options in their order.
use Rattle.std.specs.Prelude.{ℕ, List, [], ◌∷◌, ◌++◌}
use Rattle.dns_fields.specs.{Labels.DomainName, Labels.wire, Tlvs.tlvs}
use Rattle.dns_fields.specs.Fields.{Value, Values, field_octets, option_tlvs}
use Rattle.dns_fields.specs.declared.Kind.{Kind, TheVariants.Name, TheVariants.Options}
use Rattle.dns_rdata.specs.{declared.record_data.RData.RData, Data.fields_of}

-- a name's octets, uncompressed with case preserved (RFC 1035, 3.1)
abbrev pub name_octets : DomainName → List ℕ
name_octets name = wire name.labels ++ 0 ∷ []

-- a field: names uncompressed, options in their order, any other field as in the canonical octets
abbrev pub whole_octets : (k : Kind) → Value k → List ℕ
whole_octets Name x = name_octets x
whole_octets Options v = tlvs (option_tlvs v)
whole_octets k v = field_octets k v

-- the fields, one after the other
abbrev pub all_whole : (kinds : List Kind) → Values kinds → List ℕ
all_whole [] vs = []
all_whole (k ∷ kinds) vs = whole_octets k vs.0 ++ all_whole kinds vs.1

-- the uncompressed octets of a value
abbrev pub whole_data : RData → List ℕ
whole_data v = all_whole (fields_of v).kinds (fields_of v).values
