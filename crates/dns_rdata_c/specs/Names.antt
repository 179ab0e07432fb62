-- The names in record data, and where they begin in the message; names of a message and of text.
use Rattle.std.specs.Prelude.{◌≡◌, ℕ, List, Option}
use Rattle.dns_fields.specs.{Labels.DomainName, Names.IsNameIn}
use Rattle.dns_types.specs.declared.error.ParseError.{ParseError}
use Rattle.dns_rdata_zone.specs.NameTexts.{IsZoneName, IsNoZoneName, ZoneNameFault}
use Rattle.dns_view.specs.NameFields.{IsNameAt}
use Rattle.dns_types.specs.declared.record_type.RecordType.{RecordType}
use Rattle.dns_rdata_c.specs.{declared.rdata.Rdata.Rdata, Reading.Of, Calls.IsOrigin, Status.parse_status}
use Rattle.dns_rdata.specs.{declared.record_data.RData.RData, Data.Fills, Data.fields_of}

-- a value fills the octets, and P holds of the offset and the name of its name number i
pub record HasName (m : List ℕ) (p n : ℕ) (t : RecordType) (i : ℕ) (P : ℕ → DomainName → Type 0) : Type 0 where
  pub value : RData
  pub fills : Fills m p n t value
  pub offset : ℕ
  pub name : DomainName
  pub is_name : IsNameAt m p (fields_of value).kinds (fields_of value).values i offset name
  pub holds : P offset name

-- the same of RDATA as calls take it
abbrev pub Named : Rdata → ℕ → (ℕ → DomainName → Type 0) → Type 0
Named d i P = Of d (λ m p n t. HasName m p n t i P)

-- ---- names of a message

-- a name is encoded at the offset, and P holds of it
pub record NameAt (m : List ℕ) (p : ℕ) (P : DomainName → Type 0) : Type 0 where
  pub name : DomainName
  pub end : ℕ
  pub is : IsNameIn m p name end
  pub holds : P name

-- none is
abbrev pub NoNameAt : List ℕ → ℕ → Type 0
NoNameAt m p = (name : DomainName) (end : ℕ) → IsNameIn m p name end → ⊥

-- ---- names of text

-- the octets are an origin, the text is a name, and P holds of it
pub record NameOfText (octets text : List ℕ) (P : DomainName → Type 0) : Type 0 where
  pub origin : Option DomainName
  pub is_origin : IsOrigin octets origin
  pub name : DomainName
  pub is : IsZoneName origin text name
  pub holds : P name

-- the octets are an origin, the text is no name, and the status is that of the cause
pub record IsRefusedName (octets text : List ℕ) (status : ℕ) : Type 0 where
  pub origin : Option DomainName
  pub is_origin : IsOrigin octets origin
  pub none : IsNoZoneName origin text
  pub error : ParseError
  pub told : status ≡ parse_status error
  pub fault : ZoneNameFault origin text error
