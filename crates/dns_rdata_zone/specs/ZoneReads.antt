-- What a text of a zone file gives: by the rules of its type the octets of the record, and the record.
use Rattle.std.specs.Prelude.{◌≡◌, ℕ, ◌<◌, List, length, Option}
use Rattle.dns_fields.specs.Labels.{DomainName}
use Rattle.dns_rdata.specs.{Data.type_of, Data.Fills, declared.record_data.RData.RData}
use Rattle.dns_types.specs.declared.record_type.RecordType.{RecordType}
use Rattle.dns_rdata_zone.specs.{Printable.ArePrintable, Readable.IsReadable, ZoneGives.TextGives, ZoneGives.GivesValue, ZoneTexts.zone_text, ZoneTexts.zone_octets}

-- the text of a value, whose octets are at most 65535, gives its octets, whatever the origin
abbrev pub TextsGive : Type 0
TextsGive = (origin : Option DomainName) (v : RData) → IsReadable v → length (zone_octets v) < 65536
    → TextGives origin (type_of v) (zone_octets v) (zone_text v)

-- two values of a type with one text have the same octets
abbrev pub TextsTell : Type 0
TextsTell = (v w : RData) → IsReadable v → IsReadable w → type_of v ≡ type_of w → zone_text v ≡ zone_text w
    → zone_octets v ≡ zone_octets w

-- The text of a value is printable ASCII in one line.
abbrev pub TextsPrint : Type 0
TextsPrint = (v : RData) → IsReadable v → ArePrintable (zone_text v)

-- a text gives at most one value of a type
abbrev pub OneGiven : Type 0
OneGiven = (origin : Option DomainName) (t : RecordType) (text : List ℕ) (v w : RData) → GivesValue origin t text v
    → GivesValue origin t text w → v ≡ w

-- ---- the same of values that were read

-- the text of a value that was read under a type gives, under that type, this value
abbrev pub FillsGive : Type 0
FillsGive = (origin : Option DomainName) (m : List ℕ) (p n : ℕ) (t : RecordType) (v : RData) → Fills m p n t v
    → length (zone_octets v) < 65536
    → GivesValue origin t (zone_text v) v

-- two values that were read under a type and have one text have the same octets
abbrev pub FillsTell : Type 0
FillsTell = (m m' : List ℕ) (p p' n n' : ℕ) (t : RecordType) (v w : RData) → Fills m p n t v → Fills m' p' n' t w
    → zone_text v ≡ zone_text w → zone_octets v ≡ zone_octets w

-- the text of a value that was read under a type is printable ASCII in one line
abbrev pub FillsPrint : Type 0
FillsPrint = (m : List ℕ) (p n : ℕ) (t : RecordType) (v : RData) → Fills m p n t v → ArePrintable (zone_text v)
