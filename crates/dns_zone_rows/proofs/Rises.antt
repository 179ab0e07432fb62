-- Numbers that rise.
use Rattle.std.proofs.Common.{◌≡◌, ℕ, zero, suc, ◌<◌, ◌≤◌, false, List, [], ◌∷◌, length, map, get_or, refl, sym, ◌∙◌, ap, arith, add-one}
use Rattle.std.specs.{Ordering.is_gt, Ordering.nat_cmp, FinMap.nat_cmp-IsAntisymmetric}
use Rattle.std.specs.List.Sorted.{IsPermutation, IsNonDecreasing, IsStrictlyIncreasing}
use Rattle.std.proofs.{lemmas.Cmp.nat_cmp_total, lemmas.Bool.Decides.nat_tests}
use Rattle.dns_fields.specs.{Tlvs.Numbered, Tlvs.Below, Tlvs.Rising, Sorting.put, Sorting.sorted}
use Rattle.dns_fields.proofs.Sorted.{sorted_one}

-- no number is below the one before
abbrev pub Climbs : List ℕ → Type 0
Climbs xs = (k : ℕ) → suc k < length xs → get_or xs k 0 ≤ get_or xs (suc k) 0

-- each is above it
abbrev Rises : List ℕ → Type 0
Rises xs = (k : ℕ) → suc k < length xs → get_or xs k 0 < get_or xs (suc k) 0

rises_from : (xs : List ℕ) → IsStrictlyIncreasing xs → Rises xs
rises_from xs h = λ k lt. rw add-one at (h k (omega arith))

rises_to : (xs : List ℕ) → Rises xs → IsStrictlyIncreasing xs
rises_to xs h = λ k lt. rw add-one (h k (omega arith))

put_first : (x y : ℕ) (ys : List ℕ) → x ≤ y → put nat_cmp x (y ∷ ys) ≡ x ∷ y ∷ ys
put_first x y ys h = let e : is_gt (nat_cmp x y) ≡ false = grind (arith, nat_tests) in rw e refl

pub climbs_rising : (xs : List ℕ) → IsStrictlyIncreasing xs → Climbs xs
climbs_rising xs h = λ k lt. let above = rises_from xs h k lt in omega (arith, above)

pub climbs_sorted : (xs : List ℕ) → IsNonDecreasing xs → Climbs xs
climbs_sorted xs h = λ k lt. h k (suc k) 0 (omega arith) lt

-- what is in order is so when sorted
sorted_stays : (xs : List ℕ) → Climbs xs → sorted nat_cmp xs ≡ xs
sorted_stays [] h = refl
sorted_stays (x ∷ []) h = refl
sorted_stays (x ∷ y ∷ ys) h =
    ap (put nat_cmp x) (sorted_stays (y ∷ ys) (λ k lt. h (suc k) (omega arith))) ∙ put_first x y ys (h 0 (omega arith))

-- numbers have one order
pub order_once : (ns xs ys : List ℕ) → IsPermutation ns xs → Climbs xs → IsPermutation ns ys → Climbs ys → xs ≡ ys
order_once ns xs ys p a q b =
    let same : sorted nat_cmp xs ≡ sorted nat_cmp ys = sym (sorted_one nat_cmp nat_cmp_total nat_cmp-IsAntisymmetric ns xs p)
    ∙ sorted_one nat_cmp nat_cmp_total nat_cmp-IsAntisymmetric ns ys q in
    sym (sorted_stays xs a) ∙ same ∙ sorted_stays ys b

tail_rises : (n m : ℕ) (ns : List ℕ) → Rises (n ∷ m ∷ ns) → Rises (n ∷ ns)
tail_rises n m [] h k lt = absurd (omega arith)
tail_rises n m (o ∷ ns) h zero lt = let a = h 0 (omega arith) in let b = h 1 (omega arith) in omega (arith, a, b)
tail_rises n m (o ∷ ns) h (suc k) lt = h (suc (suc k)) (omega arith)

below_from : {V : Type 0} (n : ℕ) (xs : List (Numbered V)) → Rises (n ∷ map (λ x. x.0) xs) → Below n xs
below_from n [] h = tt
below_from n (x ∷ xs) h = (h 0 (omega arith), below_from n xs (tail_rises n x.0 (map (λ y. y.0) xs) h))

rising_so : {V : Type 0} (xs : List (Numbered V)) → Rises (map (λ x. x.0) xs) → Rising xs
rising_so [] h = tt
rising_so (x ∷ xs) h = (below_from x.0 xs h, rising_so xs (λ k lt. h (suc k) (omega arith)))

-- the same of numbers, and of what belongs to them
pub rising_from : {V : Type 0} (xs : List (Numbered V)) → IsStrictlyIncreasing (map (λ x. x.0) xs) → Rising xs
rising_from xs h = rising_so xs (rises_from (map (λ x. x.0) xs) h)

below_first : {V : Type 0} (n : ℕ) (xs : List (Numbered V)) → Below n xs → 0 < length (map (λ x. x.0) xs) → n < get_or (map (λ x. x.0) xs) 0 0
below_first n [] h lt = absurd (omega arith)
below_first n (x ∷ xs) h lt = h.0

rises_so : {V : Type 0} (xs : List (Numbered V)) → Rising xs → Rises (map (λ x. x.0) xs)
rises_so [] h k lt = absurd (omega arith)
rises_so (x ∷ xs) h zero lt = below_first x.0 xs h.0 (omega arith)
rises_so (x ∷ xs) h (suc k) lt = rises_so xs h.1 k (omega arith)

pub rising_to : {V : Type 0} (xs : List (Numbered V)) → Rising xs → IsStrictlyIncreasing (map (λ x. x.0) xs)
rising_to xs h = rises_to (map (λ x. x.0) xs) (rises_so xs h)
