-- The test of a row says what it tests.
use Rattle.std.proofs.Common.{◌≡◌, ℕ, ◌≤◌, ◌⊎◌, inl, inr, Bool, true, false, ◌&&◌, ◌||◌, ◌==◌, nat_le, List, [], ◌∷◌, length, refl, arith}
use Rattle.std.proofs.lemmas.Bool.Decides.{nat_tests}
use Rattle.dns_fields.specs.declared.Kind.{Kind}
use Rattle.dns_fields.specs.declared.Kind.TheVariants.{Number, Octets, Name, CharacterString}
use Rattle.dns_fields.specs.declared.Kind.TheVariants.{Parameters}
use Rattle.dns_fields.specs.Fields.{EndsItself}
use Rattle.dns_rows.specs.declared.row.{Part.Part, Rule.Rule}
use Rattle.dns_rows.specs.declared.row.Rule.TheVariants as rules
use Rattle.dns_check.specs.Parts.{IsWidth, IsCovered}
use Rattle.dns_check.specs.Rows.{AreCovered, IsRow, IsRowChecked, is_width, is_covered, are_covered, ends_itself, is_ordered, is_row, asked_length, fewest}

pub both : (a b : Bool) → (a && b) ≡ true → (a ≡ true) × (b ≡ true)
both true b h = (refl, h)
both false b h = absurd cc

either : (a b : Bool) → (a || b) ≡ true → (a ≡ true) ⊎ (b ≡ true)
either true b h = inl refl
either false b h = inr h

at_most : (a b : ℕ) → nat_le a b ≡ true → a ≤ b
at_most a b h = grind (arith, nat_tests)

is_two : (w : ℕ) → (w == 2) ≡ true → w ≡ 2
is_two w h = grind (arith, nat_tests)

width_tested : (w : ℕ) → is_width w ≡ true → IsWidth w
width_tested w h =
    elim (either (w == 1) (w == 2 || w == 4) h) [
      | inl a ↦ inl (grind (arith, nat_tests))
      | inr b ↦ elim (either (w == 2) (w == 4) b) [
        | inl c ↦ inr (inl (grind (arith, nat_tests)))
        | inr d ↦ inr (inr (grind (arith, nat_tests)))
      ]
    ]

covered_tested : (k : Kind) (r : Rule) → is_covered k r ≡ true → IsCovered k r
covered_tested (Number w) rules.KnownFlags h = is_two w h
covered_tested (Number w) r h = width_tested w h
covered_tested Parameters rules.Paths h = tt
covered_tested Parameters r h = absurd cc
covered_tested k r h = tt

all_tested : (row : List Part) → are_covered row ≡ true → AreCovered row
all_tested [] h = tt
all_tested (p ∷ row) h =
    let x = both (is_covered p.kind p.rule) (are_covered row) h in
    (covered_tested p.kind p.rule x.0, all_tested row x.1)

ends_tested : (k : Kind) → ends_itself k ≡ true → EndsItself k
ends_tested (Number w) h = tt
ends_tested (Octets n) h = tt
ends_tested Name h = tt
ends_tested CharacterString h = tt
ends_tested k h = absurd cc

order_tested : (row : List Part) → is_ordered row ≡ true → IsRow row
order_tested [] h = tt
order_tested (p ∷ []) h = tt
order_tested (p ∷ (l ∷ row)) h =
    let x = both (ends_itself p.kind) (is_ordered (l ∷ row)) h in
    (ends_tested p.kind x.0, order_tested (l ∷ row) x.1)

pub row_tested : (row : List Part) → is_row row ≡ true → IsRowChecked row
row_tested row h =
    let x = both (are_covered row) (is_ordered row && (nat_le (length row) 64 && nat_le (asked_length row) (fewest row))) h in
    let y = both (is_ordered row) (nat_le (length row) 64 && nat_le (asked_length row) (fewest row)) x.1 in
    let z = both (nat_le (length row) 64) (nat_le (asked_length row) (fewest row)) y.1 in
    record {
      covered = all_tested row x.0;
      ordered = order_tested row y.0;
      few = at_most (length row) 64 z.0;
      least = at_most (asked_length row)
          (fewest row) z.1;
    }
