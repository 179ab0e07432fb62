-- The order of two lists by the first octet of each.
use Rattle.std.proofs.Common.{◌≡◌, ◌≢◌, ℕ, ◌<◌, List, [], ◌∷◌, length, get_or, refl, sym, ◌∙◌, ap, arith}
use Rattle.std.specs.declared.cmp.Ordering.TheVariants.{Less, Equal, Greater}
use Rattle.std.specs.{Ordering.nat_cmp, Ordering.ordering_then, declared.cmp.Ordering.Ordering, Cmp.Lexicographic.slice_cmp, Cmp.nat_cmp_is}
use Rattle.dns_canonical.proofs.Comparing.{then_kept}

-- where one list is empty their lengths decide
pub first_empty : (a b : List ℕ) → length a ≡ 0 → nat_cmp (length a) (length b) ≡ slice_cmp nat_cmp a b
first_empty [] [] h = refl
first_empty [] (y ∷ t) h = sym (nat_cmp_is 0 (length (y ∷ t)) Less (omega arith))
first_empty (x ∷ s) b h = absurd (omega (arith, h))

pub second_empty : (a b : List ℕ) → length b ≡ 0 → nat_cmp (length a) (length b) ≡ slice_cmp nat_cmp a b
second_empty [] [] h = refl
second_empty (x ∷ s) [] h = sym (nat_cmp_is (length (x ∷ s)) 0 Greater (omega arith))
second_empty a (y ∷ t) h = absurd (omega (arith, h))

-- a first octet that differs decides
pub first_differs : (a b : List ℕ) (r : Ordering) → 0 < length a → 0 < length b → r ≡ nat_cmp (get_or a 0 0) (get_or b 0 0) → r ≢ Equal
    → r ≡ slice_cmp nat_cmp a b
first_differs [] b r h k e n = absurd (omega (arith, h))
first_differs (x ∷ s) [] r h k e n = absurd (omega (arith, k))
first_differs (x ∷ s) (y ∷ t) r h k e n = then_kept r (slice_cmp nat_cmp s t) n ∙ ap (λ (q : Ordering). ordering_then q (slice_cmp nat_cmp s t)) e

-- lists of one octet that is the same
pub only_octet : (a b : List ℕ) → length a ≡ 1 → length b ≡ 1 → Equal ≡ nat_cmp (get_or a 0 0) (get_or b 0 0) → Equal ≡ slice_cmp nat_cmp a b
only_octet (x ∷ []) (y ∷ []) h k e = ap (λ (q : Ordering). ordering_then q Equal) e
only_octet [] b h k e = absurd (omega (arith, h))
only_octet (x ∷ z ∷ s) b h k e = absurd (omega (arith, h))
only_octet (x ∷ []) [] h k e = absurd (omega (arith, k))
only_octet (x ∷ []) (y ∷ z ∷ t) h k e = absurd (omega (arith, k))
