-- Which octets, and which RDATA, a text of a zone file gives (RFC 1035, 5.1; RFC 3597, 5).
use Rattle.std.specs.Prelude.{◌≡◌, ◌⊎◌, ℕ, ◌<◌, Bool, true, false, ◌||◌, List, [], ◌∷◌, length, Option, Some, None, Ok}
use Rattle.dns_fields.specs.{declared.Kind.Kind, declared.Kind.TheVariants.Name, Labels.DomainName}
use Rattle.dns_rdata.specs.{Data.shape, Data.Fills, Data.data_octets, declared.record_data.RData.RData}
use Rattle.dns_types.specs.declared.record_type.RecordType.{RecordType}
use Rattle.dns_zone_rows.specs.{RowTable.zone_row_of, Rows.RowShape, Rows.RowGives}
use Rattle.dns_zone_tokens.specs.{Remaining.AreUnknown, Remaining.IsUnknownMark, Tokens.Token, Tokens.Cursor, Tokens.zone_tokens}

-- `\#`, and after it a length and as many octets in hexadecimal digits, for any type
abbrev pub AreUnknownData : List ℕ → List Token → Type 0
AreUnknownData octets [] = ⊥
AreUnknownData octets (first ∷ tokens) = IsUnknownMark first × AreUnknown octets tokens

-- the first token is not `\#`
abbrev pub AreUnmarked : List Token → Type 0
AreUnmarked [] = Unit {0}
AreUnmarked (first ∷ tokens) = IsUnknownMark first → ⊥

-- the tokens give these octets by the zone row, if there is one
abbrev pub GiveByRow : Option DomainName → Option RowShape → List ℕ → List Token → Type 0
GiveByRow origin (Some zone_row) octets tokens = RowGives origin zone_row octets tokens
GiveByRow origin None octets tokens = ⊥

-- the tokens give these octets: as unknown data, or else by the zone row of the type
abbrev pub TokensGive : Option DomainName → RecordType → List ℕ → List Token → Type 0
TokensGive origin t octets tokens =
    AreUnknownData octets tokens ⊎ (AreUnmarked tokens × GiveByRow origin (zone_row_of t) octets tokens)

-- the tokens of the text give these octets
pub record TextGives (origin : Option DomainName) (t : RecordType) (octets text : List ℕ) : Type 0 where
  pub tokens : List Token
  pub divided : zone_tokens text ≡ Ok tokens
  pub give : TokensGive origin t octets tokens

-- ---- the value

abbrev pub is_name : Kind → Bool
is_name Name = true
is_name k = false

abbrev pub has_name : List Kind → Bool
has_name [] = false
has_name (k ∷ kinds) = is_name k || has_name kinds

-- A name in unknown data has no compression pointer, so that the value has as many octets when it is emitted
-- uncompressed.
abbrev pub IsWhole : RecordType → List ℕ → RData → Type 0
IsWhole t octets v = has_name (shape t) ≡ true → length (data_octets v) ≡ length octets

-- the octets, at most 65535, are the RDATA of this value
pub record AreDataOf (octets : List ℕ) (t : RecordType) (v : RData) : Type 0 where
  pub short : length octets < 65536
  pub fills : Fills octets 0 (length octets) t v

-- the text gives octets, which are the RDATA of this value
pub record GivesValue (origin : Option DomainName) (t : RecordType) (text : List ℕ) (v : RData) : Type 0 where
  pub octets : List ℕ
  pub gives : TextGives origin t octets text
  pub is_data : AreDataOf octets t v
  pub whole : AreUnknownData octets gives.tokens → IsWhole t octets v

-- it gives no value
pub record GivesNone (origin : Option DomainName) (t : RecordType) (text : List ℕ) : Type 0 where
  pub none : (v : RData) → GivesValue origin t text v → ⊥

abbrev pub at_start : List ℕ → Cursor
at_start text = record { depth = 0; joined = false; text = text }
