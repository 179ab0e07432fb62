-- The fields of a row, one by one, and whether each is as its rule asks.
use Rattle.std.proofs.Common.{add-one, ◌+◌, ◌≡◌, ◌↔◌, ℕ, zero, suc, ◌≤◌, Bool, true, List, [], ◌∷◌, length, slice_get, Some, sym, ◌∙◌, arith, subst}
use Rattle.dns_fields.specs.declared.Kind.{Kind}
use Rattle.dns_fields.specs.Fields.{Value, Values, Field, Stands}
use Rattle.dns_fields.proofs.FieldLaws.{field_end}
use Rattle.dns_rows.specs.{declared.row.Part.Part, Table.kinds_of}
use Rattle.dns_check.specs.Rows.{IsRow}
use Rattle.dns_view.specs.{declared.row.field.FieldRef.FieldRef, Shown.Shows, Shown.ShowsAt}
use Rattle.dns_registry.specs.declared.rule.FieldRule.{FieldRule}
use Rattle.dns_registry.specs.declared.rule.FieldRule.TheVariants as rules
use Rattle.dns_registry.specs.{FieldRules.Passes, Formats.AllPass, Typed.PassesAt, Typed.FirstPass}

-- the field of this index is shown
abbrev pub ShownAt : ℕ → FieldRef → (m : List ℕ) (p : ℕ) (parts : List Part) (vs : Values (kinds_of parts)) (e : ℕ)
    → Stands m p (kinds_of parts) vs e → Type 0
ShownAt i f m p [] vs e s = ⊥
ShownAt zero f m p (part ∷ parts) vs e s = Shows m p f part.kind vs.0 s.0
ShownAt (suc i) f m p (part ∷ parts) vs e s = ShownAt i f m s.0 parts vs.1 e s.2

-- a field that others follow, or that ends with the RDATA, has one end
one_end : (m : List ℕ) (p q e : ℕ) (part : Part) (parts : List Part) (vs : Values (kinds_of (part ∷ parts))) → IsRow (part ∷ parts)
    → (s : Stands m p (kinds_of (part ∷ parts)) vs e) → Field m p part.kind vs.0 q → Stands m q (kinds_of parts) vs.1 e → q ≡ s.0
one_end m p q e part [] vs row s f t = t ∙ sym s.2
one_end m p q e part (next ∷ parts) vs row s f t = field_end row.0 f s.1

pub shown_at : (i : ℕ) (f : FieldRef) (m : List ℕ) (p : ℕ) (parts : List Part) (vs : Values (kinds_of parts)) (e : ℕ) → IsRow parts
    → (s : Stands m p (kinds_of parts) vs e) → ShowsAt m p i (kinds_of parts) vs e f → ShownAt i f m p parts vs e s
shown_at i f m p [] vs e row s h = absurd h
shown_at zero f m p (part ∷ parts) vs e row s h =
    subst (λ (q : ℕ). Shows m p f part.kind vs.0 q) (one_end m p h.0 e part parts vs row s h.1 h.2) h.3
shown_at (suc i) f m p (part ∷ []) vs e row s h = absurd h.2
shown_at (suc i) f m p (part ∷ (next ∷ parts)) vs e row s h =
    let there : h.0 ≡ s.0 = field_end row.0 h.1 s.1 in
    shown_at i f m s.0 (next ∷ parts) vs.1 e row.1 s.2
    (subst (λ (q : ℕ). ShowsAt m q i (kinds_of (next ∷ parts)) vs.1 e f) there h.2)

-- a test of what a field shows tells whether the field passes
abbrev pub Tells : Bool → FieldRule → FieldRef → List ℕ → Type 0
Tells b rule f m = (p : ℕ) (k : Kind) (v : Value k) (q : ℕ) → Field m p k v q → Shows m p f k v q → (b ≡ true) ↔ Passes rule m p k v q

pub tells_at : (b : Bool) (f : FieldRule) (field : FieldRef) (m : List ℕ) → Tells b f field m → (i p : ℕ) (parts : List Part)
    (vs : Values (kinds_of parts)) (e : ℕ) (s : Stands m p (kinds_of parts) vs e) → ShownAt i field m p parts vs e s
    → (b ≡ true) ↔ PassesAt i f m p parts vs e s
tells_at b f field m t i p [] vs e s h = absurd h
tells_at b f field m t zero p (part ∷ parts) vs e s h = t p part.kind vs.0 s.0 s.1 h
tells_at b f field m t (suc i) p (part ∷ parts) vs e s h = tells_at b f field m t i s.0 parts vs.1 e s.2 h

-- there is no such field
pub passes_after : (i : ℕ) (f : FieldRule) (m : List ℕ) (p : ℕ) (parts : List Part) (vs : Values (kinds_of parts)) (e : ℕ)
    (s : Stands m p (kinds_of parts) vs e) → length parts ≤ i → PassesAt i f m p parts vs e s
passes_after i f m p [] vs e s h = tt
passes_after zero f m p (part ∷ parts) vs e s h = absurd (omega (arith, h))
passes_after (suc i) f m p (part ∷ parts) vs e s h = passes_after i f m s.0 parts vs.1 e s.2 (omega (arith, h))

-- nothing is asked of the field
pub passes_free : (i : ℕ) (f : FieldRule) (m : List ℕ) (p : ℕ) (parts : List Part) (vs : Values (kinds_of parts)) (e : ℕ)
    (s : Stands m p (kinds_of parts) vs e) → f ≡ rules.Free → PassesAt i f m p parts vs e s
passes_free i f m p [] vs e s h = tt
passes_free zero f m p (part ∷ parts) vs e s h = subst (λ (r : FieldRule). Passes r m p part.kind vs.0 s.0) (sym h) tt
passes_free (suc i) f m p (part ∷ parts) vs e s h = passes_free i f m s.0 parts vs.1 e s.2 h

-- ---- one after the other

pub one_more : (i : ℕ) (f : FieldRule) (all : List FieldRule) (m : List ℕ) (p : ℕ) (parts : List Part) (vs : Values (kinds_of parts)) (e : ℕ)
    (s : Stands m p (kinds_of parts) vs e) → slice_get all i ≡ Some f → FirstPass i all m p parts vs e s → PassesAt i f m p parts vs e s
    → FirstPass (suc i) all m p parts vs e s
one_more i f [] m p parts vs e s g b h = tt
one_more i f (x ∷ all) m p [] vs e s g b h = tt
one_more zero f (x ∷ all) m p (part ∷ parts) vs e s g b h =
    let same : x ≡ f = cc in
    (subst (λ (y : FieldRule). Passes y m p part.kind vs.0 s.0) (sym same) h, tt)
one_more (suc i) f (x ∷ all) m p (part ∷ parts) vs e s g b h = (b.0, one_more i f all m s.0 parts vs.1 e s.2 g b.1 h)

pub all_passed : (i : ℕ) (all : List FieldRule) (m : List ℕ) (p : ℕ) (parts : List Part) (vs : Values (kinds_of parts)) (e : ℕ)
    (s : Stands m p (kinds_of parts) vs e) → length all ≤ i → FirstPass i all m p parts vs e s → AllPass m p parts all vs e s
all_passed i all m p [] vs e s h b = tt
all_passed i [] m p (part ∷ parts) vs e s h b = tt
all_passed zero (x ∷ all) m p (part ∷ parts) vs e s h b = absurd (omega (arith, h))
all_passed (suc i) (x ∷ all) m p (part ∷ parts) vs e s h b = (b.0, all_passed i all m s.0 parts vs.1 e s.2 (omega (arith, h)) b.1)

pub all_at : (i : ℕ) (f : FieldRule) (all : List FieldRule) (m : List ℕ) (p : ℕ) (parts : List Part) (vs : Values (kinds_of parts)) (e : ℕ)
    (s : Stands m p (kinds_of parts) vs e) → slice_get all i ≡ Some f → AllPass m p parts all vs e s → PassesAt i f m p parts vs e s
all_at i f all m p [] vs e s g a = tt
all_at i f [] m p (part ∷ parts) vs e s g a = absurd cc
all_at zero f (x ∷ all) m p (part ∷ parts) vs e s g a =
    let same : x ≡ f = cc in
    subst (λ (y : FieldRule). Passes y m p part.kind vs.0 s.0) same a.0
all_at (suc i) f (x ∷ all) m p (part ∷ parts) vs e s g a = all_at i f all m s.0 parts vs.1 e s.2 g a.1

pub first_more : (i : ℕ) (f : FieldRule) (all : List FieldRule) (m : List ℕ) (p : ℕ) (parts : List Part) (vs : Values (kinds_of parts)) (e : ℕ)
    (s : Stands m p (kinds_of parts) vs e) → slice_get all i ≡ Some f → FirstPass i all m p parts vs e s → PassesAt i f m p parts vs e s
    → FirstPass (i + 1) all m p parts vs e s
first_more i f all m p parts vs e s g b h = rw (add-one i) (one_more i f all m p parts vs e s g b h)
