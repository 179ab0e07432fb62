-- Iterators over the fields and the names of a view yield them all.
use Rattle.std.proofs.Common.{◌≡◌, ℕ, zero, suc, ◌+◌, ◌≤◌, ◌<◌, List, [], ◌∷◌, length, Some, None, sym, arith, subst}
use Rattle.std.specs.Prelude.{slice_get}
use Rattle.std.specs.Iterator.{Drains, Yields}
use Rattle.dns_types.specs.declared.record_type.RecordType.{RecordType}
use Rattle.dns_fields.specs.declared.Kind.{Kind}
use Rattle.dns_fields.specs.declared.Kind.TheVariants.{Name}
use Rattle.dns_fields.specs.{Fields.Values, Labels.DomainName}
use Rattle.dns_view.specs.declared.{row.field.FieldRef.FieldRef, name.name_ref.NameRef.NameRef}
use Rattle.dns_view.specs.{Shown.ShowsAt, NameFields.names_in, NameFields.IsNameAt, NameFields.ShowsNameAt}
use Rattle.dns_rdata.specs.{declared.record_data.RData.RData, Data.Fills, Data.fields_of, Views.IsViewOf}
use Rattle.dns_rdata.specs.declared.view.RDataRef.{RDataRef}
use Rattle.dns_rdata.specs.declared.view_fields.{Fields.Fields, Names.Names}
use Rattle.dns_rdata.specs.ViewFields.{ShowsField, AreFields, AreNames, NextField, NextName}

-- ---- what is left of an index

abbrev Left : {A : Type 0} → (ℕ → A → Type 0) → ℕ → ℕ → List A → Type 0
Left {A} P count i xs = (length xs + i ≡ count) × ((j : ℕ) (x : A) → slice_get xs j ≡ Some x → P (j + i) x)

left_none : {A : Type 0} (P : ℕ → A → Type 0) (count i : ℕ) → i ≤ count → count ≤ i → Left P count i []
left_none P count i low high = (omega arith, λ j x e. cc)

left_more : {A : Type 0} (P : ℕ → A → Type 0) (count i : ℕ) (x : A) (xs : List A) → P i x → Left P count (i + 1) xs → Left P count i (x ∷ xs)
left_more {A} P count i x xs here l = (omega (arith, l.0), each) where
  each : (j : ℕ) (y : A) → slice_get (x ∷ xs) j ≡ Some y → P (j + i) y
  each zero y e =
      let same : x ≡ y = cc in
      let at : i ≡ 0 + i = omega arith in
      subst (λ (k : ℕ). P k y) at (subst (P i) same here)
  each (suc j) y e = let on : j + (i + 1) ≡ suc j + i = omega arith in subst (λ (k : ℕ). P k y) on (l.1 j y e)

-- ---- fields

shown_below : (m : List ℕ) (p : ℕ) (kinds : List Kind) (vs : Values kinds) (i end : ℕ) (f : FieldRef) → ShowsAt m p i kinds vs end f → i < length kinds
shown_below m p [] vs i end f h = absurd h
shown_below m p (k ∷ kinds) vs zero end f h = omega arith
shown_below m p (k ∷ kinds) vs (suc i) end f h = omega (arith, shown_below m h.0 kinds vs.1 i end f h.2)

fields_left : (m : List ℕ) (p n : ℕ) (t : RecordType) (v : RData) (xs : List FieldRef) (s e u : Fields) → IsViewOf m p n t s.rdata → Fills m p n t v
    → s.index ≤ length (fields_of v).kinds → Yields NextField s xs e → NextField e None u
    → Left (ShowsField m p n v) (length (fields_of v).kinds) s.index xs
fields_left m p n t v [] s e u is f low y last =
    let q : NextField s None u = subst (λ (x : Fields). NextField x None u) (sym y) last in
    left_none (ShowsField m p n v) (length (fields_of v).kinds) s.index low (q.shows m p n t v is f)
fields_left m p n t v (x ∷ xs) s e u is f low y last =
    let step = y.1 in
    let here = step.shows m p n t v is f in
    let below = shown_below m p (fields_of v).kinds (fields_of v).values s.index (p + n) x here in
    let next : IsViewOf m p n t y.0.rdata = subst (λ (r : RDataRef). IsViewOf m p n t r) (sym step.rdata) is in
    let more = fields_left m p n t v xs y.0 e u next f (omega (arith, step.on, below)) y.2 last in
    left_more (ShowsField m p n v) (length (fields_of v).kinds) s.index x xs here
    (subst (λ (k : ℕ). Left (ShowsField m p n v) (length (fields_of v).kinds) k xs) step.on more)

pub all_fields : (m : List ℕ) (p n : ℕ) (t : RecordType) (v : RData) (s : Fields) → IsViewOf m p n t s.rdata → Fills m p n t v → s.index ≡ 0
    → (xs : List FieldRef) → Drains NextField s xs → AreFields m p n v xs
all_fields m p n t v s is f start xs d =
    let l = fields_left m p n t v xs s d.1.0 d.0 is f (omega (arith, start)) d.1.1 d.1.2 in
    record {
      count = omega (arith, l.0, start);
      each = λ i x e.
          let on : i + s.index ≡ i = omega (arith, start) in
          subst (λ (k : ℕ). ShowsField m p n v k x) on (l.1 i x e);
    }

-- ---- names

name_below : (m : List ℕ) (p : ℕ) (kinds : List Kind) (vs : Values kinds) (i q : ℕ) (x : DomainName) → IsNameAt m p kinds vs i q x → i < names_in kinds
name_below m p [] vs i q x h = absurd h
name_below m p (Name ∷ kinds) vs zero q x h = omega arith
name_below m p (Name ∷ kinds) vs (suc i) q x h = omega (arith, name_below m h.0 kinds vs.1 i q x h.2)
name_below m p (k ∷ kinds) vs zero q x h = name_below m h.0 kinds vs.1 zero q x h.2
name_below m p (k ∷ kinds) vs (suc i) q x h = name_below m h.0 kinds vs.1 (suc i) q x h.2

names_left : (m : List ℕ) (p n : ℕ) (t : RecordType) (v : RData) (xs : List NameRef) (s e u : Names) → IsViewOf m p n t s.rdata → Fills m p n t v
    → s.index ≤ names_in (fields_of v).kinds → Yields NextName s xs e → NextName e None u
    → Left (λ i r. ShowsNameAt m p (fields_of v).kinds (fields_of v).values i r) (names_in (fields_of v).kinds) s.index xs
names_left m p n t v [] s e u is f low y last =
    let q : NextName s None u = subst (λ (x : Names). NextName x None u) (sym y) last in
    left_none (λ i r. ShowsNameAt m p (fields_of v).kinds (fields_of v).values i r) (names_in (fields_of v).kinds) s.index low (q.shows m p n t v is f)
names_left m p n t v (x ∷ xs) s e u is f low y last =
    let step = y.1 in
    let here = step.shows m p n t v is f in
    let below = name_below m p (fields_of v).kinds (fields_of v).values s.index x.offset here.name here.at in
    let next : IsViewOf m p n t y.0.rdata = subst (λ (r : RDataRef). IsViewOf m p n t r) (sym step.rdata) is in
    let more = names_left m p n t v xs y.0 e u next f (omega (arith, step.on, below)) y.2 last in
    left_more (λ i r. ShowsNameAt m p (fields_of v).kinds (fields_of v).values i r) (names_in (fields_of v).kinds) s.index x xs here
    (subst (λ (k : ℕ). Left (λ i r. ShowsNameAt m p (fields_of v).kinds (fields_of v).values i r) (names_in (fields_of v).kinds) k xs) step.on more)

pub all_names : (m : List ℕ) (p n : ℕ) (t : RecordType) (v : RData) (s : Names) → IsViewOf m p n t s.rdata → Fills m p n t v → s.index ≡ 0
    → (xs : List NameRef) → Drains NextName s xs → AreNames m p v xs
all_names m p n t v s is f start xs d =
    let l = names_left m p n t v xs s d.1.0 d.0 is f (omega (arith, start)) d.1.1 d.1.2 in
    record {
      count = omega (arith, l.0, start);
      each = λ i x e.
          let on : i + s.index ≡ i = omega (arith, start) in
          subst (λ (k : ℕ). ShowsNameAt m p (fields_of v).kinds (fields_of v).values k x) on (l.1 i x e);
    }
