-- The fields of a zone row by their names.
use Rattle.std.proofs.Common.{◌≡◌, ℕ, zero, suc, ◌+◌, ◌<◌, ◌≤◌, ◌==◌, Bool, true, false, get_or, List, [], ◌∷◌, ◌++◌, length, map, Option, Some, None, refl, sym, ◌∙◌, ap, subst, arith}
use Rattle.std.specs.{List.slice_get, Option.option_map, Cmp.unsigned_Decides, Cmp.Lexicographic.pointwise, Cmp.Lexicographic.pointwise_decides}
use Rattle.std.proofs.lemmas.List.{length-append, length-map}
use Rattle.std.proofs.lemmas.Option.{slice_get-get_or, slice_get-map, slice_get_within}
use Rattle.dns_types.specs.declared.record_type.RecordType.{RecordType}
use Rattle.dns_zone_rows.specs.{declared.zone_row.ZoneField.ZoneField, declared.zone_row.ZoneRow.ZoneRow}
use Rattle.dns_zone_rows.specs.RowTexts.{texts_of, texts_of_field, texts_of_rest, row_texts, IsFirstOf, HasFieldAt, IsFieldOf}

abbrev Texts : Type 0
Texts = List (List ℕ)

-- the front of a list
in_front : (xs ys : List Texts) (i : ℕ) → i < length xs → slice_get (xs ++ ys) i ≡ slice_get xs i
in_front [] ys i lt = absurd (omega arith)
in_front (x ∷ xs) ys zero lt = refl
in_front (x ∷ xs) ys (suc i) lt = in_front xs ys i (omega arith)

got : {A B : Type 0} (f : A → B) (o : Option A) (y : B) → option_map f o ≡ Some y → (x : A) × (o ≡ Some x) × (f x ≡ y)
got f (Some x) y e = (x, refl, cc)
got f None y e = let bad : ⊥ = cc in absurd bad

abbrev of_fields : ZoneRow → List Texts
of_fields zone_row = map texts_of_field zone_row.fields.now

-- a zone row's texts are those of its fields, and those of the rest
long_texts : (zone_row : ZoneRow) → length (row_texts zone_row) ≡ length zone_row.fields.now + 1
long_texts zone_row =
    length-append (of_fields zone_row) (texts_of_rest zone_row.rest ∷ []) ∙ ap (λ (n : ℕ). n + 1) (length-map zone_row.fields.now texts_of_field)

-- a field of the type is one of its zone row
pub field_here : {t : RecordType} {name : List ℕ} {index : ℕ} (zone_row : ZoneRow) → Some (row_texts zone_row) ≡ texts_of t → IsFieldOf t name index
    → HasFieldAt zone_row name index
field_here {t} {name} {index} zone_row e is =
    let same : is.texts ≡ row_texts zone_row = some_one (sym is.of_type ∙ sym e) in
    let before : suc index < length (row_texts zone_row) = subst (λ (s : List Texts). suc index < length s) same is.before_rest in
    let few : index < length (of_fields zone_row) =
    let long = long_texts zone_row in let same_long = length-map zone_row.fields.now texts_of_field in omega (arith, before, long, same_long) in
    let there : slice_get (of_fields zone_row) index ≡ Some is.field =
    sym (in_front (of_fields zone_row) (texts_of_rest zone_row.rest ∷ []) index few) ∙ ap (λ (s : List Texts). slice_get s index) (sym same) ∙ is.at in
    let field = got texts_of_field (slice_get zone_row.fields.now index) is.field (sym (slice_get-map texts_of_field zone_row.fields.now index) ∙ there) in
    record { field = field.0; at = field.1; named = subst (IsFirstOf name) (sym field.2) is.named }
  where
    some_one : {x y : List Texts} → Some x ≡ Some y → x ≡ y
    some_one e = cc

-- and the zone row's are the type's
pub field_there : {t : RecordType} {name : List ℕ} {index : ℕ} (zone_row : ZoneRow) → Some (row_texts zone_row) ≡ texts_of t → HasFieldAt zone_row name index
    → IsFieldOf t name index
field_there {t} {name} {index} zone_row e has =
    let within : index < length zone_row.fields.now = slice_get_within zone_row.fields.now index has.field has.at in
    let same_long = length-map zone_row.fields.now texts_of_field in
    let few : index < length (of_fields zone_row) = omega (arith, within, same_long) in
    let long = long_texts zone_row in
    record {
      texts = row_texts zone_row;
      of_type = sym e;
      field = texts_of_field has.field;
      at = in_front (of_fields zone_row) (texts_of_rest zone_row.rest ∷ []) index few ∙ slice_get-map texts_of_field zone_row.fields.now index ∙ ap (option_map texts_of_field) has.at;
      before_rest = omega (arith, long, within);
      named = has.named;
    }

-- ---- one field after the other

abbrev same_text : List ℕ → List ℕ → Bool
same_text = pointwise ◌==◌

pub named_here : (zone_row : ZoneRow) (name n : List ℕ) (index : ℕ) (d : ZoneField) → index < length zone_row.fields.now
    → IsFirstOf n (texts_of_field (get_or zone_row.fields.now index d)) → true ≡ same_text n name → HasFieldAt zone_row name index
named_here zone_row name n index d within first same =
    let e : n ≡ name = (pointwise_decides unsigned_Decides n name).0 (sym same) in
    record { field = get_or zone_row.fields.now index d; at = slice_get-get_or zone_row.fields.now index d within; named = subst (λ (s : List ℕ). IsFirstOf s (texts_of_field (get_or zone_row.fields.now index d))) e first }

first_once : (a b : List ℕ) (texts : Texts) → IsFirstOf a texts → IsFirstOf b texts → a ≡ b
first_once a b [] x y = absurd x
first_once a b (c ∷ others) x y = x ∙ sym y

pub not_named : (zone_row : ZoneRow) (name n : List ℕ) (index : ℕ) (d : ZoneField) → index < length zone_row.fields.now
    → IsFirstOf n (texts_of_field (get_or zone_row.fields.now index d)) → false ≡ same_text n name → HasFieldAt zone_row name index → ⊥
not_named zone_row name n index d within first other has =
    let here : Some has.field ≡ Some (get_or zone_row.fields.now index d) = sym has.at ∙ slice_get-get_or zone_row.fields.now index d within in
    let field : has.field ≡ get_or zone_row.fields.now index d = cc in
    let e : n ≡ name = first_once n name (texts_of_field (get_or zone_row.fields.now index d)) first (subst (λ (f : ZoneField). IsFirstOf name (texts_of_field f)) field has.named) in
    let same : same_text n name ≡ true = (pointwise_decides unsigned_Decides n name).1 e in
    let bad : ⊥ = cc in
    absurd bad

pub none_more : (zone_row : ZoneRow) (name : List ℕ) (index : ℕ) → ((k : ℕ) → k < index → HasFieldAt zone_row name k → ⊥) → (HasFieldAt zone_row name index → ⊥)
    → (k : ℕ) → k < index + 1 → HasFieldAt zone_row name k → ⊥
none_more zone_row name index before here k lt has =
    let not_before : k < index → ⊥ = λ less. before k less has in
    let same : k ≡ index = omega (arith, lt, not_before) in
    here (subst (HasFieldAt zone_row name) same has)

pub none_at_all : (zone_row : ZoneRow) (name : List ℕ) (index : ℕ) → ((k : ℕ) → k < index → HasFieldAt zone_row name k → ⊥) → length zone_row.fields.now ≤ index
    → (k : ℕ) → HasFieldAt zone_row name k → ⊥
none_at_all zone_row name index before all k has =
    let within : k < length zone_row.fields.now = slice_get_within zone_row.fields.now k has.field has.at in
    before k (omega (arith, all, within)) has
