-- How the compression pointers of a row are counted.
use Rattle.std.proofs.Common.{◌≡◌, ℕ, suc, ◌+◌, ◌-◌, ◌≤◌, ◌<◌, inl, inr, List, ◌∷◌, length, drop, get_or, drop-cons, Ok, Err, refl, sym, arith, add-one, subst}
use Rattle.std.proofs.lemmas.List.{drop_all}
use Rattle.dns_types.specs.declared.error.DecodeError.{DecodeError}
use Rattle.dns_fields.specs.declared.Kind.{Kind}
use Rattle.dns_fields.specs.declared.Kind.TheVariants.{Name}
use Rattle.dns_names_wire.specs.State.{Reading}
use Rattle.dns_rows.specs.declared.row.Part.{Part}
use Rattle.dns_check.specs.{Parts.Skips, Rows.asked_length}
use Rattle.dns_names_wire.specs.Steps.{Leaves}
use Rattle.dns_check.specs.RowSteps.{FieldSteps, FieldsSteps, RowSteps}

-- a field that is no name has none
pub none_in : (k : Kind) (old : Reading) → (k ≡ Name → ⊥) → FieldSteps k old 0
none_in Name old other = absurd (other refl)
none_in k old other = refl

-- those of the fields before one of this index; with those of the fields from there on they are those of the row
pub record CountedSo (row : List Part) (at start n : ℕ) (old now : Reading) (before after : ℕ) : Type 0 where
  pub count : ℕ
  pub so : (k : ℕ) → FieldsSteps (drop at row) start n now k → FieldsSteps row start n old (count + k)
  pub left : after ≡ before - count

as_many : (row : List Part) (start n : ℕ) (old : Reading) (k l : ℕ) → k ≡ l → FieldsSteps row start n old k → FieldsSteps row start n old l
as_many row start n old k l e f = subst (λ (i : ℕ). FieldsSteps row start n old i) e f

pub counted_first : {row : List Part} {old : Reading} (start n before : ℕ) → CountedSo row 0 start n old old before before
counted_first {row} {old} start n before =
    record { count = 0; so = λ k f. as_many row start n old k (0 + k) (omega arith) f; left = omega arith }

-- the fields from this index on
here : {row : List Part} {at start n : ℕ} {old now : Reading} {before middle : ℕ} (d : Part) → at < length row → (s : CountedSo row at start n old now before middle) (k : ℕ)
    → FieldsSteps (get_or row at d ∷ drop (suc at) row) start n now k → FieldsSteps row start n old (s.count + k)
here {row} {at} {start} {n} {old} {now} d lt s k f = s.so k (subst (λ (r : List Part). FieldsSteps r start n now k) (sym (drop-cons row at d lt)) f)

pub counted_next : {row : List Part} {at start n : ℕ} {old now new : Reading} {before middle : ℕ} (after : ℕ) (d : Part)
    → CountedSo row at start n old now before middle → at < length row → Leaves (FieldSteps (get_or row at d).kind now) middle after
    → Skips (get_or row at d).rule (get_or row at d).kind start n (Ok tt) now new → CountedSo row (at + 1) start n old new before after
counted_next {row} {at} {start} {n} {old} {now} {new} after d c lt l s = rw add-one (record {
  count = c.count + l.0;
  so = λ k f. as_many row start n old (c.count + (l.0 + k)) (c.count + l.0 + k) (omega arith)
      (here d lt c (l.0 + k) (l.0, l.1, inl (new, k, s.is, f, refl)));
  left = omega (arith, c.left, l.2);
})

pub counted_refused : {row : List Part} {at start n : ℕ} {e : DecodeError} {old now new : Reading} {before middle : ℕ} (after : ℕ) (d : Part)
    → CountedSo row at start n old now before middle → at < length row → Leaves (FieldSteps (get_or row at d).kind now) middle after
    → start ≡ old.index → asked_length row ≤ n → Skips (get_or row at d).rule (get_or row at d).kind start n (Err e) now new
    → Leaves (RowSteps row n old) before after
counted_refused {row} {at} {start} {n} {e} {old} {now} {new} after d c lt l is long s = (
  c.count + l.0,
  inr (
    long,
    subst (λ (p : ℕ). FieldsSteps row p n old (c.count + l.0)) is
        (here d lt c l.0 (l.0, l.1, inr (e, new, s.is, refl))),
  ),
  omega (arith, c.left, l.2),
)

pub counted_last : {row : List Part} {at start n : ℕ} {old now : Reading} {before after : ℕ} → CountedSo row at start n old now before after
    → length row ≤ at → start ≡ old.index → asked_length row ≤ n → Leaves (RowSteps row n old) before after
counted_last {row} {at} {start} {n} {old} {now} {before} {after} c l is long =
    let none : FieldsSteps (drop at row) start n now 0 = subst (λ (r : List Part). FieldsSteps r start n now 0) (sym (drop_all at row l)) refl in (
      c.count + 0,
      inr (long, subst (λ (p : ℕ). FieldsSteps row p n old (c.count + 0)) is (c.so 0 none)),
      omega (arith, c.left),
    )

-- RDLENGTH is less than the row asks for
pub counted_short : {n asked : ℕ} (row : List Part) (old : Reading) (before : ℕ) → asked ≡ asked_length row → n < asked
    → Leaves (RowSteps row n old) before before
counted_short {n} {asked} row old before is short = (0, inl (omega arith, refl), omega arith)
