-- The names among the fields of a row, by their index.
use Rattle.std.proofs.Common.{◌≡◌, ℕ, zero, suc, ◌+◌, ◌-◌, ◌≤◌, ◌<◌, List, ◌∷◌, length, drop, get_or, drop-cons, refl, sym, arith, subst}
use Rattle.std.proofs.lemmas.List.{drop_all}
use Rattle.dns_fields.specs.declared.Kind.{Kind}
use Rattle.dns_fields.specs.declared.Kind.TheVariants.{Name}
use Rattle.dns_fields.specs.{Labels.DomainName, Names.IsNameIn, Fields.Values, Fields.Field}
use Rattle.dns_rows.specs.{declared.row.Part.Part, Table.kinds_of}
use Rattle.dns_view.specs.declared.name.name_ref.NameRef.{NameRef}
use Rattle.dns_check.specs.Rows.{IsRow, HasRow}
use Rattle.dns_view.specs.NameFields.{names_in, IsNameAt, ShowsNameAt}
use Rattle.dns_check.proofs.RowLoop.{behind_row, field_reaches}
use Rattle.dns_view.proofs.PartEnds.{Stops, NoneStops, behind_next, this_field}

-- ---- one field

-- a name that is not the one
later_name : (k : Kind) → k ≡ Name → (kinds : List Kind) (vs : Values (k ∷ kinds)) (m : List ℕ) (p b i q : ℕ) (x : DomainName) → Field m p k vs.0 b
    → IsNameAt m b kinds vs.1 i q x → IsNameAt m p (k ∷ kinds) vs (suc i) q x
later_name Name e kinds vs m p b i q x f w = (b, f, w)
later_name k e kinds vs m p b i q x f w = absurd (cc)

one_name : (k : Kind) → k ≡ Name → (kinds : List Kind) → names_in (k ∷ kinds) ≡ suc (names_in kinds)
one_name Name e kinds = refl
one_name k e kinds = absurd (cc)

-- a field that is no name
other_field : (k : Kind) → (k ≡ Name → ⊥) → (kinds : List Kind) (vs : Values (k ∷ kinds)) (m : List ℕ) (p b i q : ℕ) (x : DomainName) → Field m p k vs.0 b
    → IsNameAt m b kinds vs.1 i q x → IsNameAt m p (k ∷ kinds) vs i q x
other_field Name ne kinds vs m p b i q x f w = absurd (ne refl)
other_field k ne kinds vs m p b zero q x f w = (b, f, w)
other_field k ne kinds vs m p b (suc i) q x f w = (b, f, w)

no_name : (k : Kind) → (k ≡ Name → ⊥) → (kinds : List Kind) → names_in (k ∷ kinds) ≡ names_in kinds
no_name Name ne kinds = absurd (ne refl)
no_name k ne kinds = refl

-- the name itself
this_name : (k : Kind) → k ≡ Name → (kinds : List Kind) (vs : Values (k ∷ kinds)) (m : List ℕ) (p b : ℕ) → Field m p k vs.0 b
    → (x : DomainName) × IsNameAt m p (k ∷ kinds) vs zero p x × IsNameIn m p x b
this_name Name e kinds vs m p b f = (vs.0, (refl, refl), f.is)
this_name k e kinds vs m p b f = absurd (cc)

-- ---- by the index

pub record NameSo (m : List ℕ) (p : ℕ) (row left : List Part) (e here number j : ℕ) : Type 0 where
  pub ordered : IsRow left
  pub only : (h : HasRow m p row e) → (rest : HasRow m here left e)
      × ((q : ℕ) (x : DomainName) → IsNameAt m here (kinds_of left) rest.values j q x → IsNameAt m p (kinds_of row) h.values number q x)
  pub few : names_in (kinds_of left) ≤ j → names_in (kinds_of row) ≤ number

pub record AtName (m : List ℕ) (p : ℕ) (row : List Part) (e here number j index : ℕ) : Type 0 where
  pub so : NameSo m p row (drop index row) e here number j
  pub within : here ≤ e

pub at_name_first : {m : List ℕ} {p : ℕ} {row : List Part} {e : ℕ} (number : ℕ) → IsRow row → p ≤ e → AtName m p row e p number number 0
at_name_first number ordered within = record {
  so = record { ordered = ordered; only = λ h. (h, λ q x w. w); few = λ h. h };
  within = within;
}

-- all fields were gone over
pub no_more_names : {m : List ℕ} {p : ℕ} {row : List Part} {e here number j index : ℕ} → AtName m p row e here number j index
    → length row ≤ index → names_in (kinds_of row) ≤ number
no_more_names {m} {p} {row} {e} {here} {number} {j} {index} so l =
    (subst (λ (left : List Part). NameSo m p row left e here number j) (drop_all index row l) so.so).few (omega arith)

module _ {m : List ℕ} {p : ℕ} {row : List Part} {e here number j index : ℕ} (d : Part) (so : AtName m p row e here number j index)
    (l : index < length row) where
  here_left : NameSo m p row (get_or row index d ∷ drop (suc index) row) e here number j
  here_left = subst (λ (left : List Part). NameSo m p row left e here number j) (drop-cons row index d l) so.so

  -- a field is gone over, and i is the index from there
  left_more : {next : ℕ} (i : ℕ) → Stops m here (get_or row index d).kind e next → next ≤ e
      → ((vs : Values (kinds_of (get_or row index d ∷ drop (suc index) row))) (q : ℕ) (x : DomainName) → Field m here (get_or row index d).kind vs.0 next
      → IsNameAt m next (kinds_of (drop (suc index) row)) vs.1 i q x → IsNameAt m here (kinds_of (get_or row index d ∷ drop (suc index) row)) vs j q x)
      → (names_in (kinds_of (drop (suc index) row)) ≤ i → names_in (kinds_of (get_or row index d ∷ drop (suc index) row)) ≤ j)
      → AtName m p row e next number i (index + 1)
  left_more {next} i stops within on few =
      let part = get_or row index d in
      let left = drop (suc index) row in
      let more : suc index ≡ index + 1 = omega arith in
      record {
        so = subst (λ (k : ℕ). NameSo m p row (drop k row) e next number i) more (record {
          ordered = behind_row part left here_left.ordered;
          only = λ h.
              let k = here_left.only h in (
                behind_next m here e next part left here_left.ordered k.0 stops,
                λ q x w. k.1 q x (on k.0.values q x (this_field m here e next part left here_left.ordered k.0 stops) w),
              );
          few = λ f. here_left.few (few f);
        });
        within = within;
      }

  pub after_other : {next : ℕ} → Stops m here (get_or row index d).kind e next → next ≤ e → ((get_or row index d).kind ≡ Name → ⊥)
      → AtName m p row e next number j (index + 1)
  after_other {next} stops within ne =
      let kind = (get_or row index d).kind in
      let left = drop (suc index) row in
      let none = no_name kind ne (kinds_of left) in
      left_more j stops within (λ vs q x f w. other_field kind ne (kinds_of left) vs m here next j q x f w) (λ few. omega (arith, few, none))

  pub after_name : {next : ℕ} → Stops m here (get_or row index d).kind e next → next ≤ e → (get_or row index d).kind ≡ Name → 0 < j
      → AtName m p row e next number (j - 1) (index + 1)
  after_name {next} stops within is some =
      let kind = (get_or row index d).kind in
      let left = drop (suc index) row in
      let one = one_name kind is (kinds_of left) in
      let whole : suc (j - 1) ≡ j = omega arith in
      left_more (j - 1) stops within
      (λ vs q x f w. subst (λ (i : ℕ). IsNameAt m here (kind ∷ kinds_of left) vs i q x) whole
      (later_name kind is (kinds_of left) vs m here next (j - 1) q x f w)) (λ few. omega (arith, few, one))

  -- it is this name
  pub at_this_name : (r : NameRef) → (get_or row index d).kind ≡ Name → j ≡ 0 → r.message.now ≡ m → r.offset ≡ here → (h : HasRow m p row e)
      → ShowsNameAt m p (kinds_of row) h.values number r
  at_this_name r is zero_left same offset h =
      let kind = (get_or row index d).kind in
      let left = drop (suc index) row in
      let k = here_left.only h in
      let w = this_name kind is (kinds_of left) k.0.values m here k.0.stands.0 k.0.stands.1 in
      let at : IsNameAt m p (kinds_of row) h.values number here w.0 =
      k.1 here w.0 (subst (λ (i : ℕ). IsNameAt m here (kind ∷ kinds_of left) k.0.values i here w.0) (sym zero_left) w.1) in
      record {
        message = same;
        name = w.0;
        at = subst (λ (q : ℕ). IsNameAt m p (kinds_of row) h.values number q w.0) (sym offset) at;
        end = k.0.stands.0;
        is = subst (λ (q : ℕ). IsNameIn m q w.0 k.0.stands.0) (sym offset) w.2;
      }

  -- no field is there
  pub no_field_left : NoneStops m here (get_or row index d).kind e → HasRow m p row e → ⊥
  no_field_left none h =
      let left = drop (suc index) row in
      let w = (here_left.only h).0 in
      none w.values.0 w.stands.0 w.stands.1 (field_reaches m (get_or row index d) left w.stands.0 e w.values.1 here_left.ordered w.stands.2)
