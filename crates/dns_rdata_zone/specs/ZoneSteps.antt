-- What the code that reads texts of zone files keeps.
use Rattle.std.specs.Prelude.{◌≡◌, ℕ, List, Option, Ok}
use Rattle.dns_fields.specs.Labels.{DomainName}
use Rattle.dns_rdata.specs.declared.record_data.RData.{RData}
use Rattle.dns_types.specs.declared.record_type.RecordType.{RecordType}
use Rattle.dns_zone_rows.specs.RowTable.{zone_row_of}
use Rattle.dns_zone_tokens.specs.{Remaining.AreUnknown, Tokens.Token, Tokens.Cursor, Tokens.tokens_at, Tokens.zone_tokens}
use Rattle.dns_rdata_zone.specs.ZoneGives.{GiveByRow, AreDataOf, IsWhole}

-- the octets are the RDATA of no value
pub record AreNoData (octets : List ℕ) (t : RecordType) : Type 0 where
  pub none : (v : RData) → AreDataOf octets t v → ⊥

-- the tokens after `\#` are octets, and these are the RDATA of this value
pub record UnknownIs (t : RecordType) (v : RData) (cursor : Cursor) : Type 0 where
  pub tokens : List Token
  pub divided : tokens_at cursor ≡ Ok tokens
  pub octets : List ℕ
  pub are : AreUnknown octets tokens
  pub is_data : AreDataOf octets t v
  pub whole : IsWhole t octets v

-- they are the RDATA of none
pub record UnknownIsNone (t : RecordType) (cursor : Cursor) : Type 0 where
  pub none : (v : RData) → UnknownIs t v cursor → ⊥

-- the tokens of the text are octets by the zone row of the type, and these are the RDATA of this value
pub record RowIs (origin : Option DomainName) (t : RecordType) (text : List ℕ) (v : RData) : Type 0 where
  pub tokens : List Token
  pub divided : zone_tokens text ≡ Ok tokens
  pub octets : List ℕ
  pub give : GiveByRow origin (zone_row_of t) octets tokens
  pub is_data : AreDataOf octets t v

-- they are the RDATA of none
pub record RowIsNone (origin : Option DomainName) (t : RecordType) (text : List ℕ) : Type 0 where
  pub none : (v : RData) → RowIs origin t text v → ⊥
