-- Domain names in zone files (RFC 1035, 5.1).
use Rattle.std.specs.Prelude.{ℕ, List, [], ◌∷◌, ◌++◌, flat_map, codes}
use Rattle.dns_fields.specs.Labels.{DomainName}
use Rattle.dns_rdata_zone.specs.Spellings.{name_octet}

-- a label and the dot after it
abbrev pub zone_label : List ℕ → List ℕ
zone_label label = flat_map name_octet label ++ codes "."

-- labels, with a dot after each; the root is a dot
abbrev pub zone_labels : List (List ℕ) → List ℕ
zone_labels [] = codes "."
zone_labels (label ∷ labels) = zone_label label ++ flat_map zone_label labels

-- a name is written fully qualified, as it is emitted, even if it is relative
abbrev pub zone_name : DomainName → List ℕ
zone_name name = zone_labels name.labels
