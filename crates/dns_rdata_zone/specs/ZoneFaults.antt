-- Why a text of a zone file gives no RDATA, and what the error says.
use Rattle.std.specs.Prelude.{◌≡◌, ◌⊎◌, ℕ, ◌<◌, List, ◌∷◌, length, Option, Some, None, Ok, codes}
use Rattle.dns_fields.specs.Labels.{DomainName}
use Rattle.dns_names_wire.specs.State.{Reading}
use Rattle.dns_rdata.specs.{ReadErrors.IsReadError, declared.record_data.RData.RData}
use Rattle.dns_types.specs.{Errors.decode_error, Errors.proto_error, declared.error.DecodeError.DecodeError, declared.error.ParseError.ParseError}
use Rattle.dns_types.specs.declared.record_type.RecordType.{RecordType}
use Rattle.dns_types.specs.declared.error.ParseError.TheVariants as parse
use Rattle.dns_zone_rows.specs.{RowFaults.row_value, RowFaults.RowFault, RowTable.zone_row_of, RowTexts.row_texts, RowTexts.texts_of, declared.zone_row.ZoneRow.ZoneRow}
use Rattle.dns_zone_tokens.specs.{Errors.Says, Tokens.Token, Tokens.Cursor, Tokens.tokens_at, Tokens.seen_at, Tokens.with_token, Tokens.zone_tokens, ZoneReads.IsUndividedError}
use Rattle.dns_zone_tokens.specs.Remaining.{AreUnknown, IsUnknownMark, TookAll, UnknownFault}
use Rattle.dns_rdata_zone.specs.ZoneGives.{AreUnmarked, GiveByRow, AreDataOf, IsWhole, at_start}

-- ---- octets

-- there are more octets than RDATA can have (RFC 1035, 3.2.1)
pub record AreMany (octets : List ℕ) (e : ParseError) : Type 0 where
  pub says : Says (codes "record data past 65535 octets") e
  pub many : 65535 < length octets

-- reading them as RDATA of the type fails, and so does the text
pub record AreRefused (octets : List ℕ) (t : RecordType) (e : ParseError) : Type 0 where
  pub cause : DecodeError
  pub behind : Reading
  pub refused : IsReadError t (length octets) (record { message = octets; index = 0 }) behind cause
  pub says : e ≡ proto_error (decode_error cause)

-- why octets are no RDATA of a type
abbrev pub OctetsFault : List ℕ → RecordType → ParseError → Type 0
OctetsFault octets t e = AreMany octets e ⊎ AreRefused octets t e

-- ---- unknown data

-- `\#` is the first token of the text, and these tokens follow it
pub record IsBehindMark (text : List ℕ) (cursor : Cursor) : Type 0 where
  pub first : Token
  pub mark : IsUnknownMark first
  pub divided : zone_tokens text ≡ with_token first (tokens_at cursor)
  pub seen : seen_at (at_start text) ≡ first ∷ seen_at cursor

-- there is a compression pointer in a name
pub record HasPointer (octets : List ℕ) (t : RecordType) (e : ParseError) : Type 0 where
  pub says : Says (codes "pointer in a domain name of unknown data") e
  pub value : RData
  pub is_data : AreDataOf octets t value
  pub other : IsWhole t octets value → ⊥

-- the tokens are octets, which are no RDATA of the type, or have a compression pointer
pub record DataFault (t : RecordType) (cursor : Cursor) (e : ParseError) : Type 0 where
  pub octets : List ℕ
  pub took : TookAll AreUnknown octets cursor
  pub why : OctetsFault octets t e ⊎ HasPointer octets t e

-- After `\#` there are not a length and as many octets, or the octets have a fault.
abbrev pub BehindMarkFault : RecordType → Cursor → ParseError → Type 0
BehindMarkFault t cursor e = UnknownFault cursor e ⊎ DataFault t cursor e

pub record MarkedFault (t : RecordType) (text : List ℕ) (e : ParseError) : Type 0 where
  pub cursor : Cursor
  pub behind : IsBehindMark text cursor
  pub why : BehindMarkFault t cursor e

-- ---- the zone row of the type

-- the first token is not `\#`
pub record HasNoMark (text : List ℕ) : Type 0 where
  pub unmarked : (tokens : List Token) → zone_tokens text ≡ Ok tokens → AreUnmarked tokens
  pub seen : AreUnmarked (seen_at (at_start text))

-- the type has no zone row
pub record LacksRow (t : RecordType) (e : ParseError) : Type 0 where
  pub says : e ≡ parse.UnsupportedRecordType t
  pub none : zone_row_of t ≡ None

-- The tokens give no octets by the zone row of the type, whose texts are those of the type. The error names the first
-- field at fault, and says what is wrong with its token.
pub record TokensFault (origin : Option DomainName) (t : RecordType) (text : List ℕ) (e : ParseError) : Type 0 where
  pub zone_row : ZoneRow
  pub of_type : zone_row_of t ≡ Some (row_value zone_row)
  pub texts : texts_of t ≡ Some (row_texts zone_row)
  pub cursor : Cursor
  pub starts : tokens_at cursor ≡ zone_tokens text
  pub seen : seen_at cursor ≡ seen_at (at_start text)
  pub has : RowFault origin zone_row cursor e

-- the tokens give octets by the zone row, which are no RDATA of the type
pub record GivenFault (origin : Option DomainName) (t : RecordType) (text : List ℕ) (e : ParseError) : Type 0 where
  pub octets : List ℕ
  pub took : TookAll (GiveByRow origin (zone_row_of t)) octets (at_start text)
  pub why : OctetsFault octets t e

-- the type has no zone row, the tokens give no octets by it, or the octets have a fault
abbrev pub ByRowFault : Option DomainName → RecordType → List ℕ → ParseError → Type 0
ByRowFault origin t text e = LacksRow t e ⊎ TokensFault origin t text e ⊎ GivenFault origin t text e

pub record UnmarkedFault (origin : Option DomainName) (t : RecordType) (text : List ℕ) (e : ParseError) : Type 0 where
  pub unmarked : HasNoMark text
  pub why : ByRowFault origin t text e

-- ---- the text

-- The text is rejected before its first token; the unknown-data form is not kept; or the tokens are no RDATA by the zone row
-- of the type.
abbrev pub ZoneFault : Option DomainName → RecordType → List ℕ → ParseError → Type 0
ZoneFault origin t text e = IsUndividedError (at_start text) e ⊎ MarkedFault t text e ⊎ UnmarkedFault origin t text e
