-- Octets at which a reader need not stop: their marks in a vector, and the octets before an index.
use Rattle.std.proofs.Common.{◌≡◌, ◌≢◌, ℕ, ◌+◌, ◌-◌, ◌<◌, ◌≤◌, ◌%◌, ◌^◌, Bool, true, false, cond, eqb, leb, List, length, get_or, map, replicate, take, drop}
use Rattle.std.proofs.lemmas.Simd.{zip2_splat, zip2_of_maps, map-map, mask_l-mod, trailing_mask_l, run_in_chunk_le, run_in_chunk_fails, none_from_empty_mask}
use Rattle.std.proofs.{lemmas.Simd.get_or-chunk, lemmas.List.length-map, lemmas.List.length-take-le, lemmas.Bool.leb-false, lemmas.Bool.eq-eqb}
use Rattle.std.proofs.{lemmas.Bool.cases_lt, Common.refl, Common.sym, Common.ap, Common.subst, Common.◌∙◌, Common.arith, Common.bit_or, Common.inl, Common.inr}
use Rattle.std.specs.{Prelude.not, List.prefix_len, Int.trailing_zeros, Int.w64, Simd.Lanes.zip2, Simd.Lanes.mask_l, Simd.Lanes.top}
use Rattle.dns_tokens.specs.Quiet.{IsQuiet}

-- what three comparisons leave of an octet
abbrev mark : ℕ → ℕ → ℕ → ℕ → ℕ
mark most b c x = bit_or (cond (leb x most) 255 0) (bit_or (cond (eqb x b) 255 0) (cond (eqb x c) 255 0))

abbrev is_marked : ℕ → ℕ → ℕ → ℕ → Bool
is_marked most b c x = top 7 (mark most b c x)

none_of : (p q r : Bool) → top 7 (bit_or (cond p 255 0) (bit_or (cond q 255 0) (cond r 255 0))) ≡ false → (p ≡ false) × (q ≡ false) × (r ≡ false)
none_of false false false h = (refl, refl, refl)
none_of false false true h = let no : true ≡ false = h in absurd (cc no)
none_of false true false h = let no : true ≡ false = h in absurd (cc no)
none_of false true true h = let no : true ≡ false = h in absurd (cc no)
none_of true false false h = let no : true ≡ false = h in absurd (cc no)
none_of true false true h = let no : true ≡ false = h in absurd (cc no)
none_of true true false h = let no : true ≡ false = h in absurd (cc no)
none_of true true true h = let no : true ≡ false = h in absurd (cc no)

differ : (x y : ℕ) → eqb x y ≡ false → x ≢ y
differ x y h e = let both : true ≡ false = sym (eq-eqb x y e) ∙ h in absurd (cc both)

unmarked : (most b c x : ℕ) → is_marked most b c x ≡ false → IsQuiet most b c x
unmarked most b c x h =
    let all = none_of (leb x most) (eqb x b) (eqb x c) h in
    (leb-false x most all.0, differ x b all.1, differ x c all.2)

-- the marks of a vector of w octets, as the code has them
abbrev pub marks_of : ℕ → ℕ → ℕ → ℕ → List ℕ → ℕ
marks_of w most b c xs =
    mask_l (map (top 7) (zip2 bit_or (zip2 (λ x y. cond (leb x y) 255 0) xs (replicate w most))
    (zip2 bit_or (zip2 (λ x y. cond (eqb x y) 255 0) xs (replicate w b)) (zip2 (λ x y. cond (eqb x y) 255 0) xs (replicate w c))))) % 2 ^ 64

marks_are : (w most b c : ℕ) (xs : List ℕ) → w ≤ 64 → length xs ≡ w → marks_of w most b c xs ≡ mask_l (map (is_marked most b c) xs)
marks_are w most b c xs few long =
    ap (λ (ys : List ℕ). mask_l (map (top 7) ys) % 2 ^ 64)
    (zip2_of_maps bit_or (λ x. cond (leb x most) 255 0) (λ x. bit_or (cond (eqb x b) 255 0) (cond (eqb x c) 255 0)) xs
    (zip2_splat (λ x y. cond (leb x y) 255 0) xs w most long)
    (zip2_of_maps bit_or (λ x. cond (eqb x b) 255 0) (λ x. cond (eqb x c) 255 0) xs
    (zip2_splat (λ x y. cond (eqb x y) 255 0) xs w b long) (zip2_splat (λ x y. cond (eqb x y) 255 0) xs w c long)))
    ∙ ap (λ (bs : List Bool). mask_l bs % 2 ^ 64) (map-map (top 7) (mark most b c) xs)
    ∙ mask_l-mod (map (is_marked most b c) xs) 64 (omega (arith, length-map xs (is_marked most b c)))

-- without a mark all are quiet
pub all_quiet : (w most b c : ℕ) (s : List ℕ) → w ≤ 64 → w ≤ length s → marks_of w most b c (take w s) ≡ 0 → (k : ℕ) → k < w → IsQuiet most b c (get_or s k 0)
all_quiet w most b c s few room none k lt =
    unmarked most b c (get_or s k 0)
    (none_from_empty_mask (is_marked most b c) s 0 w 0 (omega arith) (sym (marks_are w most b c (take w s) few (length-take-le w s room)) ∙ none) k (omega arith) (omega arith))

-- and so are those before the first mark
in_front : (w most b c r : ℕ) (s : List ℕ) → w ≤ length s → r ≡ prefix_len (λ x. not (is_marked most b c x)) (take w s)
    → (r ≤ w) × ((k : ℕ) → k < r → IsQuiet most b c (get_or s k 0))
in_front w most b c r s room counted = (
  run_in_chunk_le (is_marked most b c) s 0 w r 0 (omega arith) counted,
  λ k lt. unmarked most b c (get_or s k 0) (run_in_chunk_fails (is_marked most b c) s 0 w r 0 (omega arith) counted k (omega arith) (omega arith)),
)

pub first_quiet : (w most b c : ℕ) (s : List ℕ) → w ≤ 64 → w ≤ length s → 0 < marks_of w most b c (take w s)
    → (trailing_zeros w64 (marks_of w most b c (take w s)) ≤ w)
    × ((k : ℕ) → k < trailing_zeros w64 (marks_of w most b c (take w s)) → IsQuiet most b c (get_or s k 0))
first_quiet w most b c s few room some =
    let long : length (take w s) ≡ w = length-take-le w s room in
    let same = marks_are w most b c (take w s) few long in
    in_front w most b c (trailing_zeros w64 (marks_of w most b c (take w s))) s room
    (ap (λ m. trailing_zeros w64 m) same ∙ trailing_mask_l (is_marked most b c) 64 (take w s) (omega (arith, long)) (omega (arith, same)))

-- ---- octets at the front

abbrev pub AreQuiet : ℕ → ℕ → ℕ → List ℕ → ℕ → Type 0
AreQuiet most b c s n = (k : ℕ) → k < n → IsQuiet most b c (get_or s k 0)

-- the first n, and as many after them
pub quiet_on : (most b c : ℕ) (s : List ℕ) (n m : ℕ) → AreQuiet most b c s n → m ≤ length s - n → AreQuiet most b c (take (length s - n) (drop n s)) m
    → AreQuiet most b c s (n + m)
quiet_on most b c s n m front within more k lt = elim (cases_lt k n) [
  | inl before ↦ front k before
  | inr behind ↦
      let at : n + (k - n) ≡ k = omega arith in
      subst (λ j. IsQuiet most b c (get_or s j 0)) at
      (subst (λ x. IsQuiet most b c x) (get_or-chunk n (length s - n) s (k - n) 0 (omega arith)) (more (k - n) (omega arith)))
]
