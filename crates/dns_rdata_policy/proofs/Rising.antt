-- Numbers that rise, and which numbers a list has.
use Rattle.std.proofs.Common.{take-append-drop, length-take, length-drop, sym, ap, ◌∙◌, subst, arith, ◌*◌, ◌/◌, ◌≢◌, Result, Ok, Err, Bool}
use Rattle.std.proofs.lemmas.List.Elements.{All-from_get_or, All-from_recursion, All-head, All-tail, recursion_from_All}
use Rattle.std.proofs.{lemmas.List.Sorted.list_any-IsPermutation, lemmas.List.Sorted.All-permutation, lemmas.List.Sorted.searched, Math.Bool.or-false}
use Rattle.std.proofs.lemmas.List.{Folds.list_any-append, Folds.list_any_at, Folds.list_any_none, Filters.All-dedup, Kept.AllPairs-from_increasing}
use Rattle.std.proofs.lemmas.{Bool.cases_eq, Bool.cases_lt, Bool.eq-eqb, Bool.ne_eqb, List.get_or-drop, List.get_or-take}
use Rattle.std.proofs.lemmas.{Bool.Decides.eqb_tells, Bool.Decides.nat_tests, Map.Keys.IsStrictlyIncreasing-dedup}
use Rattle.std.proofs.Common.{◌≡◌, ℕ, zero, suc, ◌+◌, ◌-◌, ◌<◌, ◌≤◌, ◌==◌, ◌||◌, false, true, inl, inr, refl, All, List, [], ◌∷◌, length, get_or, take, drop}
use Rattle.dns_fields.specs.Bitmaps.{contains, AllAbove, Rises, IsTypeSet}
use Rattle.dns_rdata_policy.specs.RecordTypeSet.{IsLastOf, IsSetOf}
use Rattle.std.specs.{List.Sorted.IsBinarySearchResult, List.Sorted.IsSorted, List.Sorted.IsPermutation, List.Sorted.IsStrictlyIncreasing, Ordering.nat_cmp}
use Rattle.std.specs.{List.dedup, List.dedup_from, Result.is_ok}

-- ---- what a list has

-- t is none of numbers of which each meets what t does not
pub lacks : (P : ℕ → Type 0) (xs : List ℕ) (t : ℕ) → All P xs → (P t → ⊥) → contains t xs ≡ false
lacks P xs t all unmet = list_any_none (λ u. u == t) xs (λ k d l. ne_eqb (get_or xs k d) t (λ e. unmet (subst P e (all k d l))))

pub has_at : (xs : List ℕ) (i : ℕ) → i < length xs → contains (get_or xs i 0) xs ≡ true
has_at xs i l = list_any_at (λ u. u == get_or xs i 0) xs i 0 l (eq-eqb (get_or xs i 0) (get_or xs i 0) refl)

halves : (i : ℕ) (v : List ℕ) (u : ℕ) → contains u v ≡ contains u (take i v) || contains u (drop i v)
halves i v u = ap (contains u) (sym (take-append-drop i v)) ∙ list_any-append (λ t. t == u) (take i v) (drop i v)

pub in_rest : (i : ℕ) (v : List ℕ) (u : ℕ) → contains u (take i v) ≡ false → contains u v ≡ contains u (drop i v)
in_rest i v u e = halves i v u ∙ ap (λ b. b || contains u (drop i v)) e

-- ---- numbers that rise

above_at : (n : ℕ) (xs : List ℕ) (i : ℕ) → AllAbove n xs → i < length xs → n < get_or xs i 0
above_at n [] i a l = absurd (omega arith)
above_at n (x ∷ xs) zero a l = a.0
above_at n (x ∷ xs) (suc i) a l = above_at n xs i a.1 (omega arith)

pub ascends : (xs : List ℕ) → Rises xs → (i j : ℕ) → i < j → j < length xs → get_or xs i 0 < get_or xs j 0
ascends [] r i j l m = absurd (omega arith)
ascends (x ∷ xs) r i zero l m = absurd (omega arith)
ascends (x ∷ xs) r zero (suc j) l m = above_at x xs j r.0 (omega arith)
ascends (x ∷ xs) r (suc i) (suc j) l m = ascends xs r.1 i j (omega arith) (omega arith)

pub no_fall : (xs : List ℕ) → Rises xs → (i j : ℕ) → i ≤ j → j < length xs → get_or xs i 0 ≤ get_or xs j 0
no_fall xs r i j l m = elim (cases_eq i j) [
  | inl e ↦ omega (arith, ap (λ (k : ℕ). get_or xs k 0) e)
  | inr n ↦ omega (arith, n, ascends xs r i j (omega (arith, n)) m)
]

-- no number from n up to m is among numbers that skip these at an index
pub skips : (n m i : ℕ) (v : List ℕ) → Rises v → i ≤ length v → (0 < i → get_or v (i - 1) 0 < n) → (i < length v → m ≤ get_or v i 0)
    → (u : ℕ) → n ≤ u → u < m → contains u v ≡ false
skips n m i v r within last first u a b = lacks (λ t. t ≢ u) v u (All-from_get_or (λ t. t ≢ u) v 0 (λ k l e. elim (cases_lt k i) [
  | inl c ↦ omega (arith, e, a, c, last (omega (arith, c)), no_fall v r k (i - 1) (omega (arith, c)) (omega (arith, c)))
  | inr c ↦ omega (arith, e, b, first (omega (arith, c, l)), no_fall v r i k c l)
])) (λ n. n refl)

pub set_drop : (i : ℕ) (v : List ℕ) → IsTypeSet v → IsTypeSet (drop i v)
set_drop zero v s = s
set_drop (suc i) [] s = s
set_drop (suc i) (x ∷ v) s = set_drop i v (record { rises = s.rises.1; numbers = s.numbers.1 })

-- from an index on they are at least n if the one there is
pub from_on : (n i : ℕ) (v : List ℕ) → IsTypeSet v → (i < length v → n ≤ get_or v i 0) → (u : ℕ) → u < n → contains u (drop i v) ≡ false
from_on n i v s first u l =
    let here : i + 0 ≡ i = omega arith in
    skips 0 n 0 (drop i v) (set_drop i v s).rises (omega arith) (λ some. absurd (omega (arith, some)))
    (λ some. omega (arith, rw here at (get_or-drop i v 0 0), first (omega (arith, some, length-drop i v)))) u (omega arith) l

-- so what is below that is before the index
pub front_only : (n i : ℕ) (v : List ℕ) → IsTypeSet v → (i < length v → n ≤ get_or v i 0) → (u : ℕ) → u < n → contains u v ≡ contains u (take i v)
front_only n i v s first u l = halves i v u ∙ rw (from_on n i v s first u l) (or-false (contains u (take i v)))

pub last_at : (v : List ℕ) (j k : ℕ) → Rises v → j < length v → get_or v j 0 / 256 ≡ k → (suc j < length v → get_or v (suc j) 0 / 256 ≢ k)
    → IsLastOf v k (get_or v j 0)
last_at v j k r l e next = record {
  has = has_at v j l;
  of = e;
  last = let one : suc j - 1 ≡ j = omega arith in λ u m f. skips (get_or v j 0 + 1) (256 * (k + 1)) (suc j) v r (omega (arith, l))
      (λ some. omega (arith, ap (λ (i : ℕ). get_or v i 0) one))
      (λ some. omega (arith, e, ascends v r j (suc j) (omega arith) some, next some)) u (omega (arith, m)) (omega (arith, f));
}

pub small_at : (v : List ℕ) (i : ℕ) → IsTypeSet v → i < length v → get_or v i 0 < 65536
small_at v i s l = All-from_recursion (λ t. t < 65536) v s.numbers i 0 l

above_from : (n : ℕ) (xs : List ℕ) → All (λ u. n < u) xs → AllAbove n xs
above_from n [] a = tt
above_from n (x ∷ xs) a = (All-head (λ u. n < u) x xs a, above_from n xs (All-tail (λ u. n < u) x xs a))

pub rises_from : (xs : List ℕ) → ((i j : ℕ) → i < j → j < length xs → get_or xs i 0 < get_or xs j 0) → Rises xs
rises_from [] h = tt
rises_from (x ∷ xs) h = (
  above_from x xs (All-from_get_or (λ u. x < u) xs 0 (λ i l. h 0 (suc i) (omega arith) (omega arith))),
  rises_from xs (λ i j l m. h (suc i) (suc j) (omega arith) (omega arith)),
)

pub rises_take : (n : ℕ) (xs : List ℕ) → Rises xs → Rises (take n xs)
rises_take n xs r = rises_from (take n xs) (λ i j l m.
    let k = length-take n xs in
    rw (get_or-take n xs i 0 (omega arith), get_or-take n xs j 0 (omega arith)) (ascends xs r i j l (omega arith)))

-- ---- numbers that were sorted, each once, are their set

contains-dedup_from : (k : ℕ) (xs : List ℕ) (t : ℕ) → contains t (dedup_from ◌==◌ k xs) ≡ contains t (k ∷ xs)
contains-dedup_from k [] t = refl
contains-dedup_from k (x ∷ xs) t = elim (eqb_tells x k) [
  | inl e ↦ rw (e.0, e.1) (contains-dedup_from k xs t ∙ grind (arith, nat_tests))
  | inr e ↦ rw e.0 (ap (λ (b : Bool). (k == t) || b) (contains-dedup_from x xs t))
]

contains-dedup : (xs : List ℕ) (t : ℕ) → contains t (dedup ◌==◌ xs) ≡ contains t xs
contains-dedup [] t = refl
contains-dedup (x ∷ xs) t = contains-dedup_from x xs t

increasing : (xs : List ℕ) → IsStrictlyIncreasing xs → Rises xs
increasing xs h = rises_from xs (λ i j. AllPairs-from_increasing xs h i j 0)

-- numbers of 16 bits that rise
pub rising_set : (numbers : List ℕ) → All (λ t. t < 65536) numbers → IsStrictlyIncreasing numbers → IsSetOf numbers numbers
rising_set numbers small h =
    let set : IsTypeSet numbers = record { rises = increasing numbers h; numbers = recursion_from_All (λ t. t < 65536) numbers small } in
    record { set = set; same = λ t. refl }

-- or that were sorted, and then kept once each
pub sorted_set : (numbers sorted : List ℕ) → All (λ t. t < 65536) numbers → IsPermutation numbers sorted → IsSorted nat_cmp sorted
    → IsSetOf numbers (dedup ◌==◌ sorted)
sorted_set numbers sorted small p s = record {
  set = record {
    rises = increasing (dedup ◌==◌ sorted) (IsStrictlyIncreasing-dedup sorted s);
    numbers = recursion_from_All (λ t. t < 65536) (dedup ◌==◌ sorted)
        (All-dedup ◌==◌ (λ t. t < 65536) sorted (All-permutation (λ t. t < 65536) numbers sorted p small));
  };
  same = λ t. contains-dedup sorted t ∙ sym (list_any-IsPermutation (λ u. u == t) numbers sorted p);
}

-- ---- searching

-- in a set a binary search finds exactly the numbers that it contains
pub found : (xs : List ℕ) (x : ℕ) (r : Result ℕ ℕ) → Rises xs → IsBinarySearchResult (λ y. nat_cmp y x) xs r → is_ok r ≡ contains x xs
found xs x (Ok i) r h =
    let s = searched xs x (Ok i) h (no_fall xs r) in
    sym (list_any_at (λ u. u == x) xs i 0 s.0 (eq-eqb (get_or xs i 0) x s.1))
found xs x (Err i) r h =
    let s = searched xs x (Err i) h (no_fall xs r) in
    sym (lacks (λ y. y ≢ x) xs x (All-from_get_or (λ y. y ≢ x) xs 0 (λ k l e. elim (cases_lt k i) [
      | inl b ↦ omega (arith, s.1 k b, e)
      | inr b ↦ omega (arith, s.2 k b l, e)
    ])) (λ n. n refl))
