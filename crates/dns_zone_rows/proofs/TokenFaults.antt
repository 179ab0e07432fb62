-- The token that an error is about is found by the name of a field.
use Rattle.std.proofs.Common.{◌≡◌, ℕ, zero, suc, ◌<◌, ◌≤◌, List, [], ◌∷◌, Option, Some, None, refl, sym, subst, arith}
use Rattle.std.specs.{List.slice_get, declared.ops.Range.Range, Option.option_map, Option.IfSome, Option.IfNone}
use Rattle.dns_types.specs.{Errors.IsAbout, declared.error.ParseError.ParseError, declared.record_type.RecordType.RecordType}
use Rattle.dns_types.proofs.FieldNames.{one_field}
use Rattle.dns_zone_rows.specs.{declared.zone_row.ZoneRow.ZoneRow, RowTexts.HasFieldAt, RowTexts.IsFieldOf, RowTexts.row_texts, RowTexts.texts_of}
use Rattle.dns_zone_rows.proofs.FieldNames.{field_here, field_there}
use Rattle.dns_zone_tokens.specs.Spans.{spans}
use Rattle.dns_zone_rows.specs.TokenFaults.{IsTokenAtFault}

none_later : {A : Type 0} (xs : List A) (i j : ℕ) → slice_get xs i ≡ None → i ≤ j → slice_get xs j ≡ None
none_later [] i j e le = refl
none_later (x ∷ xs) zero j e le = let bad : ⊥ = cc in absurd bad
none_later (x ∷ xs) (suc i) zero e le = absurd (omega arith)
none_later (x ∷ xs) (suc i) (suc j) e le = none_later xs i j e (omega arith)

-- a field of the type with the error's name is one of the zone row
here : {t : RecordType} {text name : List ℕ} {e : ParseError} {span : ℕ × ℕ} (zone_row : ZoneRow) → IsAbout e name → Some (row_texts zone_row) ≡ texts_of t
    → (is : IsTokenAtFault t text e span) → HasFieldAt zone_row name is.index
here {t} {text} {name} {e} zone_row about same is =
    field_here zone_row same (subst (λ (n : List ℕ). IsFieldOf t n is.index) (one_field e is.name name is.about about) is.field)

-- no field of the zone row has the error's name
pub no_name : {t : RecordType} {text name : List ℕ} {e : ParseError} (zone_row : ZoneRow) → IsAbout e name → Some (row_texts zone_row) ≡ texts_of t
    → ((k : ℕ) → HasFieldAt zone_row name k → ⊥) → (span : ℕ × ℕ) → IsTokenAtFault t text e span → ⊥
no_name zone_row about same none span is = none is.index (here zone_row about same is)

-- the text has no token with the field's index
pub no_token : {t : RecordType} {text name : List ℕ} {e : ParseError} (zone_row : ZoneRow) (index : ℕ) → IsAbout e name → Some (row_texts zone_row) ≡ texts_of t
    → ((k : ℕ) → k < index → HasFieldAt zone_row name k → ⊥) → slice_get (spans text) index ≡ None → (span : ℕ × ℕ) → IsTokenAtFault t text e span → ⊥
no_token {text = text} zone_row index about same first none span is =
    let not_before : is.index < index → ⊥ = λ before. first is.index before (here zone_row about same is) in
    let later : index ≤ is.index = omega (arith, not_before) in
    let gone = none_later (spans text) index is.index none later in
    let at = is.at in
    let bad : ⊥ = cc in
    absurd bad

pub token_there : {t : RecordType} {text name : List ℕ} {e : ParseError} (zone_row : ZoneRow) (index : ℕ) (span : ℕ × ℕ) → IsAbout e name
    → Some (row_texts zone_row) ≡ texts_of t → HasFieldAt zone_row name index → slice_get (spans text) index ≡ Some span → IsTokenAtFault t text e span
token_there {name = name} zone_row index span about same has at =
    record { name = name; about = about; index = index; field = field_there zone_row same has; at = at }

-- ---- what the search for the token gives

abbrev pair : Range ℕ → ℕ × ℕ
pair span = (span.start, span.end)

pub some_span : (t : RecordType) (text : List ℕ) (e : ParseError) {name : List ℕ} (zone_row : ZoneRow) (index : ℕ) (o : Option (Range ℕ)) → IsAbout e name
    → Some (row_texts zone_row) ≡ texts_of t → HasFieldAt zone_row name index → option_map pair o ≡ slice_get (spans text) index
    → IfSome o (λ span. IsTokenAtFault t text e (span.start, span.end))
some_span t text e zone_row index (Some span) about same has at = token_there zone_row index (pair span) about same has (sym at)
some_span t text e zone_row index None about same has at = tt

pub no_span : (t : RecordType) (text : List ℕ) (e : ParseError) {name : List ℕ} (zone_row : ZoneRow) (index : ℕ) (o : Option (Range ℕ)) → IsAbout e name
    → Some (row_texts zone_row) ≡ texts_of t → ((k : ℕ) → k < index → HasFieldAt zone_row name k → ⊥) → option_map pair o ≡ slice_get (spans text) index
    → IfNone o ((span : ℕ × ℕ) → IsTokenAtFault t text e span → ⊥)
no_span t text e zone_row index (Some span) about same first at = tt
no_span t text e zone_row index None about same first at = no_token zone_row index about same first (sym at)
