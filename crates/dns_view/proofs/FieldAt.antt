-- The field of a number.
use Rattle.std.proofs.Common.{◌≡◌, ℕ, suc, ◌+◌, ◌-◌, ◌≤◌, ◌<◌, List, [], ◌∷◌, length, take, drop, get_or, drop-cons, sym, ◌∙◌, arith, subst, Bor}
use Rattle.dns_fields.specs.declared.Kind.{Kind}
use Rattle.dns_fields.specs.declared.Kind.TheVariants.{Options, Parameters, Bitmap}
use Rattle.dns_fields.specs.declared.Kind.TheVariants.{Number, Octets, Name, CharacterString, CharacterStrings, Rest}
use Rattle.dns_fields.specs.{Octets.At, Fields.Value, Fields.Field}
use Rattle.dns_fields.proofs.FieldLaws.{field_same, field_end}
use Rattle.dns_names_wire.specs.{State.Reading, Terms.TookField, Terms.LacksField}
use Rattle.dns_rows.specs.declared.row.Part.{Part}
use Rattle.dns_names_wire.proofs.Strings.{at_rest}
use Rattle.dns_view.specs.declared.name.name_ref.NameRef.{NameRef}
use Rattle.dns_view.specs.declared.row.field.FieldRef.{FieldRef}
use Rattle.dns_view.specs.declared.row.field.FieldRef.TheVariants as shown
use Rattle.dns_rows.specs.Table.{kinds_of}
use Rattle.dns_check.specs.Rows.{AreCovered, IsRow, HasRow}
use Rattle.dns_view.specs.Shown.{Shows, ShowsAt}
use Rattle.dns_check.proofs.{RowLoop.behind_row, RowLoop.field_reaches, Alone.between_is, Alone.slice_at}
use Rattle.dns_view.proofs.{PartEnds.Stops, PartEnds.NoneStops, PartEnds.behind_next, PartEnds.this_field}

-- ---- one field

-- it shows whatever value is encoded there
abbrev AllShown : List ℕ → ℕ → FieldRef → Kind → ℕ → Type 0
AllShown m i f k q = (v : Value k) → Field m i k v q → Shows m i f k v q

-- a kind is another
pub shown_as : {m : List ℕ} {i q : ℕ} {k l : Kind} (f : FieldRef) → k ≡ l → AllShown m i f l q → AllShown m i f k q
shown_as {m} {i} {q} f e h = subst (λ (x : Kind). AllShown m i f x q) (sym e) h

pub number_shown : {m : List ℕ} {i q w n : ℕ} {k : Kind} {old new : Reading} → k ≡ Number w → old ≡ record { message = m; index = i }
    → TookField old (Number w) n new → AllShown m i (shown.Number n) k q
number_shown {m} {i} {q} {w} {n} {k} {old} {new} kind is t = shown_as (shown.Number n) kind (λ v f.
    let g : Field m i (Number w) n new.index = subst (λ (r : Reading). Field r.message r.index (Number w) n new.index) is t.field in
    let there : new.index ≡ q = field_end {k = Number w} tt g f in
    record { is = field_same (subst (λ (e : ℕ). Field m i (Number w) n e) there g) f })

pub number_missing : {m : List ℕ} {i q w : ℕ} {k : Kind} {old : Reading} (g : FieldRef) → k ≡ Number w → old ≡ record { message = m; index = i }
    → LacksField old (Number w) → AllShown m i g k q
number_missing {m} {i} {q} {w} g kind is l = shown_as g kind (λ v f.
    absurd (l.none v q (subst (λ (r : Reading). Field r.message r.index (Number w) v q) (sym is) f)))

pub octets_shown : {m : List ℕ} {i q n : ℕ} {k : Kind} (s : Bor (List ℕ)) → k ≡ Octets n → s.now ≡ take (q - i) (drop i m) → AllShown m i (shown.Octets s) k q
octets_shown s kind same = shown_as (shown.Octets s) kind (λ v f. record { is = same ∙ between_is f.is.1 })

pub name_shown : {m : List ℕ} {i q : ℕ} {k : Kind} (r : NameRef) → k ≡ Name → r.message.now ≡ m → r.offset ≡ i → AllShown m i (shown.Name r) k q
name_shown r kind message offset = shown_as (shown.Name r) kind (λ v f. record { is = (message, offset) })

pub string_shown : {m : List ℕ} {i q : ℕ} {k : Kind} (s : Bor (List ℕ)) → k ≡ CharacterString → s.now ≡ take (q - (i + 1)) (drop (i + 1) m)
    → AllShown m i (shown.CharacterString s) k q
string_shown s kind same = shown_as (shown.CharacterString s) kind (λ v f. record { is = same ∙ between_is (at_rest (length v ∷ []) v f.is.1) })

pub string_missing : {m : List ℕ} {i q : ℕ} {k : Kind} (g : FieldRef) → k ≡ CharacterString → q ≤ i → AllShown m i g k q
string_missing g kind past = shown_as g kind (λ v f. absurd (omega (arith, f.is.1.ends)))

pub strings_shown : {m : List ℕ} {i q : ℕ} {k : Kind} (s : Bor (List ℕ)) → k ≡ CharacterStrings → s.now ≡ take (q - i) (drop i m)
    → AllShown m i (shown.CharacterStrings s) k q
strings_shown s kind same = shown_as (shown.CharacterStrings s) kind (λ v f. record { is = same ∙ between_is f.is.1 })

pub rest_shown : {m : List ℕ} {i q : ℕ} {k : Kind} (s : Bor (List ℕ)) → k ≡ Rest → s.now ≡ take (q - i) (drop i m) → AllShown m i (shown.Rest s) k q
rest_shown s kind same = shown_as (shown.Rest s) kind (λ v f. record { is = same ∙ between_is f.is })

-- ---- fields whose encoding is shown

module _ {m : List ℕ} {i q : ℕ} (s : Bor (List ℕ)) (within : i ≤ q) (inside : q ≤ length m) (same : s.now ≡ take (q - i) (drop i m)) where
  there : At m i s.now q
  there = subst (λ (o : List ℕ). At m i o q) (sym same) (slice_at m i q within inside)

  pub bitmap_shown : {k : Kind} → k ≡ Bitmap → AllShown m i (shown.Bitmap s) k q
  bitmap_shown kind = shown_as (shown.Bitmap s) kind (λ v f. record { is = there })

  pub parameters_shown : {k : Kind} → k ≡ Parameters → AllShown m i (shown.Parameters s) k q
  parameters_shown kind = shown_as (shown.Parameters s) kind (λ v f. record { is = there })

  pub options_shown : {k : Kind} → k ≡ Options → AllShown m i (shown.Options s) k q
  options_shown kind = shown_as (shown.Options s) kind (λ v f. record { is = there })

-- ---- by the index in the row

pub record FieldSo (m : List ℕ) (p : ℕ) (row left : List Part) (e here number j : ℕ) : Type 0 where
  pub ordered : IsRow left
  pub covered : AreCovered left
  pub only : (h : HasRow m p row e) → (rest : HasRow m here left e)
      × ((f : FieldRef) → ShowsAt m here j (kinds_of left) rest.values e f → ShowsAt m p number (kinds_of row) h.values e f)

pub record AtField (m : List ℕ) (p : ℕ) (row : List Part) (e here number index : ℕ) : Type 0 where
  pub so : FieldSo m p row (drop index row) e here number (number - index)
  pub below : index ≤ number
  pub within : here ≤ e

pub at_field_first : {m : List ℕ} {p : ℕ} {row : List Part} {e : ℕ} (number : ℕ) → IsRow row → AreCovered row → p ≤ e → AtField m p row e p number 0
at_field_first {m} {p} {row} {e} number ordered covered within =
    let all : number - 0 ≡ number = omega arith in
    record {
      so = subst (λ (j : ℕ). FieldSo m p row row e p number j) (sym all) record { ordered = ordered; covered = covered; only = λ h. (h, λ f s. s) };
      below = omega arith;
      within = within;
    }

module _ {m : List ℕ} {p : ℕ} {row : List Part} {e here number index : ℕ} (d : Part) (so : AtField m p row e here number index)
    (l : index < length row) where
  here_field : FieldSo m p row (get_or row index d ∷ drop (suc index) row) e here number (number - index)
  here_field = subst (λ (left : List Part). FieldSo m p row left e here number (number - index)) (drop-cons row index d l) so.so

  -- the field is another one
  pub at_field_more : {next : ℕ} → Stops m here (get_or row index d).kind e next → next ≤ e → index < number → AtField m p row e next number (index + 1)
  at_field_more {next} stops within lt =
      let part = get_or row index d in
      let left = drop (suc index) row in
      let j : number - index ≡ suc (number - (index + 1)) = omega arith in
      let more : suc index ≡ index + 1 = omega arith in
      let s = subst (λ (k : ℕ). FieldSo m p row (part ∷ left) e here number k) j here_field in
      record {
        so = subst (λ (k : ℕ). FieldSo m p row (drop k row) e next number (number - (index + 1))) more (record {
          ordered = behind_row part left s.ordered;
          covered = s.covered.1;
          only = λ h.
              let k = s.only h in
              let field = this_field m here e next part left s.ordered k.0 stops in
              (behind_next m here e next part left s.ordered k.0 stops, λ f shows. k.1 f (next, field, shows));
        });
        below = omega arith;
        within = within;
      }

  -- it is this field
  pub at_field : {next : ℕ} (f : FieldRef) → Stops m here (get_or row index d).kind e next → index ≡ number
      → AllShown m here f (get_or row index d).kind next → (h : HasRow m p row e) → ShowsAt m p number (kinds_of row) h.values e f
  at_field {next} f stops is shows h =
      let part = get_or row index d in
      let left = drop (suc index) row in
      let zero_left : number - index ≡ 0 = omega arith in
      let s = subst (λ (k : ℕ). FieldSo m p row (part ∷ left) e here number k) zero_left here_field in
      let k = s.only h in
      let field = this_field m here e next part left s.ordered k.0 stops in
      k.1 f (next, field, (behind_next m here e next part left s.ordered k.0 stops).stands, shows k.0.values.0 field)

  -- no field is there
  pub no_such_field : NoneStops m here (get_or row index d).kind e → HasRow m p row e → ⊥
  no_such_field none h =
      let left = drop (suc index) row in
      let w = (here_field.only h).0 in
      none w.values.0 w.stands.0 w.stands.1 (field_reaches m (get_or row index d) left w.stands.0 e w.values.1 here_field.ordered w.stands.2)
