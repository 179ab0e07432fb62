-- The name at an offset of a message, and its octets.
use Rattle.std.specs.Prelude.{ℕ, List, true}
use Rattle.dns_fields.specs.Labels.{DomainName}
use Rattle.dns_view.specs.declared.name.name_ref.NameRef.{NameRef}
use Rattle.dns_view.specs.LabelList.{labels_at, low_octets}

abbrev pub name_shown : NameRef → DomainName
name_shown r = record { labels = labels_at r.message.now r.offset; fully_qualified = true }

-- uncompressed and in lower case
abbrev pub octets_shown : NameRef → List ℕ
octets_shown r = low_octets r.message.now r.offset
