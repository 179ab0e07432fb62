-- Lists, whose octets are checked before a value is made of them.
use Rattle.std.proofs.Common.{◌≡◌, ◌⊎◌, inr, ℕ, ◌+◌, ◌<◌, List, ◌∷◌, refl, sym, arith, subst, Ok, Err}
use Rattle.dns_types.specs.declared.error.DecodeError.{DecodeError}
use Rattle.dns_types.specs.declared.error.DecodeError.TheVariants as decode
use Rattle.dns_fields.specs.declared.Kind.{Kind, TheVariants.Number}
use Rattle.dns_fields.specs.{Octets.AreOctets, Fields.EndsItself, Fields.Field, Fields.Value, Fields.Values, Fields.Stands}
use Rattle.dns_fields.proofs.{FieldLaws.field_end, FieldLaws.field_same, Numbers.length-bytes}
use Rattle.dns_names_wire.specs.{State.Reading, Facts.Facts, Terms.IsLong, Terms.LacksOctets, Terms.StaysBehind, Terms.TookField, Terms.UnlessMemory, Terms.moved}
use Rattle.dns_names_wire.proofs.FieldReads.{stands_within}
use Rattle.dns_rows.specs.{declared.row.Part.Part, Table.kinds_of, Rules.MeetsRow}
use Rattle.dns_check.specs.{Rows.TookRow, ByRow.NoneTaken, ByRow.ReadsRow, ByRow.RowRejected, ByRow.RowThere}
use Rattle.dns_check.proofs.ByRow.{no_row_region, unless_given}

-- the same of a decoder that stays where it is
pub there_at : {row : List Part} {n i : ℕ} {d w new : Reading} → AreOctets d.message → n < 65536 → w ≡ d → TookRow row n w new → i ≡ new.index
    → RowThere row n d (moved d i)
there_at {row} {n} {i} {d} {w} {new} are short same h is =
    let t : TookRow row n d new = subst (λ (r : Reading). TookRow row n r new) same h in
    let m : record { message = new.message; index = new.index } ≡ moved d i = rw (t.behind.message, is) refl in
    record { octets = are; short = short; took = subst (λ (r : Reading). TookRow row n d r) m t }

-- its fields are those that are there
pub row_reads : {T : Type 0} (f : Facts T) (x : T) {n : ℕ} {old new : Reading} → IsLong (kinds_of f.row) → (h : RowThere f.row n old new)
    → f.fields x ≡ h.took.fields.values → ReadsRow f n (Ok x) old new
row_reads f x {n} {old} {new} long h same = record {
  behind = h.took.behind;
  here = λ e.
      let s : Stands old.message old.index (kinds_of f.row) (f.fields x) (old.index + n) = subst (λ (q : ℕ). Stands old.message old.index (kinds_of f.row) (f.fields x) q) e
      (subst (λ (vs : Values (kinds_of f.row)). Stands old.message old.index (kinds_of f.row) vs new.index) (sym same) h.took.fields.stands) in
      record {
        octets = h.octets;
        short = h.short;
        within = stands_within old.message old.index (kinds_of f.row) (f.fields x) (old.index + n) long s;
        stands = s;
        holds = subst (MeetsRow f.row) (sym same) h.took.fields.meets;
      };
  elsewhere = λ ne. no_row_region f.row n old.message old.index (h.took.elsewhere ne);
}

-- and nothing was taken
pub rejected_row : {T : Type 0} (f : Facts T) {n : ℕ} (e : DecodeError) {old new : Reading} → StaysBehind old new → RowRejected f.row n old
    → ReadsRow f n (Err e) old new
rejected_row f e behind h = (behind, unless_given e (inr h))

-- memory ran out
pub memory_row : {T : Type 0} (f : Facts T) (n : ℕ) {e : DecodeError} {old new : Reading} → StaysBehind old new → e ≡ decode.Memory → ReadsRow f n (Err e) old new
memory_row f n {e} {old} behind m =
    (behind, subst (λ (x : DecodeError). UnlessMemory x (NoneTaken f.row n old ⊎ RowRejected f.row n old)) (sym m) tt)

-- the first of the fields that are there is the one that was taken
pub took_first : {k : Kind} (kinds : List Kind) {v : Value k} (vs : Values (k ∷ kinds)) {old b : Reading} (e : ℕ) → EndsItself k → TookField old k v b
    → Stands old.message old.index (k ∷ kinds) vs e → (v ≡ vs.0) × Stands b.message b.index kinds vs.1 e
took_first {k} kinds {v} vs {old} {b} e ends f s =
    let there : s.0 ≡ b.index = field_end ends s.1 f.field in (
      field_same f.field (subst (λ (q : ℕ). Field old.message old.index k vs.0 q) there s.1),
      subst (λ (m : List ℕ). Stands m b.index kinds vs.1 e) (sym f.message) (subst (λ (q : ℕ). Stands old.message q kinds vs.1 e) there s.2),
    )

-- it is not missing
pub number_there : {w : ℕ} (kinds : List Kind) (vs : Values (Number w ∷ kinds)) {old : Reading} (e : ℕ) → Stands old.message old.index (Number w ∷ kinds) vs e
    → LacksOctets old w → ⊥
number_there {w} kinds vs e s l = omega (arith, l, s.1.is.1.ends, s.1.is.1.within, length-bytes w vs.0)
