-- The token that an error of a text is about.
use Rattle.std.specs.Prelude.{◌≡◌, ℕ, List, slice_get, Some}
use Rattle.dns_types.specs.{Errors.IsAbout, declared.error.ParseError.ParseError, declared.record_type.RecordType.RecordType}
use Rattle.dns_zone_rows.specs.RowTexts.{IsFieldOf}
use Rattle.dns_zone_tokens.specs.Spans.{spans}

-- The error is about a field of the type that is one token, and the token of the text with the field's index starts and
-- ends at these offsets.
pub record IsTokenAtFault (t : RecordType) (text : List ℕ) (e : ParseError) (span : ℕ × ℕ) : Type 0 where
  pub name : List ℕ
  pub about : IsAbout e name
  pub index : ℕ
  pub field : IsFieldOf t name index
  pub at : slice_get (spans text) index ≡ Some span
