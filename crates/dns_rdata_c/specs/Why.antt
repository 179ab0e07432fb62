-- Why a text gives no RDATA.
use Rattle.std.specs.Prelude.{◌≡◌, ◌⊎◌, ℕ, List, [], take, drop, Option}
use Rattle.dns_fields.specs.Labels.{DomainName}
use Rattle.dns_types.specs.{Errors.IsAbout, declared.error.ParseError.ParseError, declared.record_type.RecordType.RecordType}
use Rattle.dns_types.specs.declared.error.ParseError.TheVariants as parse
use Rattle.dns_types.specs.declared.error.ProtoError.TheVariants as proto
use Rattle.dns_zone_rows.specs.TokenFaults.{IsTokenAtFault}
use Rattle.dns_rdata_zone.specs.{ZoneGives.GivesNone, ZoneFaults.ZoneFault}
use Rattle.dns_rdata_c.specs.{declared.parse.TextFault.TextFault, Calls.IsOrigin, Status.decode_status}

-- what an error says: the field of a missing token, or what is wrong
abbrev pub reason_text : ParseError → List ℕ
reason_text (parse.MissingToken text) = text.now
reason_text (parse.Message text) = text.now
reason_text e = []

-- the status with which the octets of a text are rejected; 0 if they are not
abbrev pub cause_in : ParseError → ℕ
cause_in (parse.Proto (proto.Decode cause)) = decode_status cause
cause_in e = 0

-- so many octets from this offset on of what the error says are the name of the field that it is about; or it is about
-- none, and both numbers are 0
abbrev pub IsFieldAt : ParseError → ℕ × ℕ → Type 0
IsFieldAt e span = IsAbout e (take span.1 (drop span.0 (reason_text e))) ⊎ ((span.0 ≡ 0) × (span.1 ≡ 0) × ((name : List ℕ) → IsAbout e name → ⊥))

-- the token that the error is about starts and ends at these offsets; or it is about no single token, and both are 0
abbrev pub IsSpan : RecordType → List ℕ → ParseError → ℕ × ℕ → Type 0
IsSpan t text e span = IsTokenAtFault t text e span ⊎ ((span.0 ≡ 0) × (span.1 ≡ 0) × ((other : ℕ × ℕ) → IsTokenAtFault t text e other → ⊥))

-- the numbers of the error
pub record IsTextFault (t : RecordType) (text : List ℕ) (e : ParseError) (f : TextFault) : Type 0 where
  pub token : IsSpan t text e (f.begin, f.end)
  pub field : IsFieldAt e (f.field, f.field_length)
  pub cause : f.cause ≡ cause_in e

-- the octets are an origin, the text gives no value for the cause of this error, and P holds of the error
pub record IsWhyNone (octets : List ℕ) (t : RecordType) (text : List ℕ) (P : ParseError → Type 0) : Type 0 where
  pub origin : Option DomainName
  pub is_origin : IsOrigin octets origin
  pub error : ParseError
  pub none : GivesNone origin t text
  pub fault : ZoneFault origin t text error
  pub holds : P error
