-- Addresses by their octets.
use Rattle.std.proofs.Common.{◌≡◌, ℕ, suc, ◌+◌, ◌*◌, ◌/◌, ◌%◌, ◌<◌, true, nat_eq, slice_index_or, List, [], ◌∷◌, length, get_or, All, refl, sym, ap, ◌∙◌, arith}
use Rattle.std.proofs.lemmas.{List.Elements.recursion_from_All, List.Elements.All-from_get_or, Bool.Decides.same_from_decides}
use Rattle.std.proofs.Math.Bool.{◌&&◌, and-true}
use Rattle.std.specs.{Cmp.Lexicographic.pointwise, Cmp.Lexicographic.pointwise_decides, Net.Addr.segments_of, Net.Addr.octets_of, Cmp.unsigned_Decides}
use Rattle.std.specs.List.{AllByRecursion}

-- pairs of octets are the octets of their segments
octets_of_each : (n : ℕ) (xs : List ℕ) → length xs ≡ 2 * n → AllByRecursion (λ x. x < 256) xs → octets_of (segments_of xs) ≡ xs
octets_of_each n [] e h = refl
octets_of_each (suc n) (a ∷ b ∷ xs) e h =
    let high : (a * 256 + b) / 256 ≡ a = omega (arith, h.1.0) in
    let low : (a * 256 + b) % 256 ≡ b = omega (arith, h.1.0) in
    rw (high, low, octets_of_each n xs (omega arith) h.1.1) refl
octets_of_each n (a ∷ xs) e h = absurd (omega arith)

-- octets that are read as numbers of eight bits
pub octets_of-segments_of : (n : ℕ) (xs : List ℕ) → length xs ≡ 2 * n → ((i : ℕ) → get_or xs i 0 < 256) → octets_of (segments_of xs) ≡ xs
octets_of-segments_of n xs e h = octets_of_each n xs e (recursion_from_All (λ x. x < 256) xs (All-from_get_or (λ x. x < 256) xs 0 (λ i l. h i)))

-- the same of octets
pub octets_of-segments : (n : ℕ) (xs : List ℕ) → length xs ≡ 2 * n → All (λ x. x < 256) xs → octets_of (segments_of xs) ≡ xs
octets_of-segments n xs e h = octets_of_each n xs e (recursion_from_All _ _ h)

-- and segments are told by their octets
pub segments_of-octets_of : (ss : List ℕ) → segments_of (octets_of ss) ≡ ss
segments_of-octets_of [] = refl
segments_of-octets_of (s ∷ ss) =
    let whole : (s / 256) * 256 + s % 256 ≡ s = omega arith in
    ap (λ h. h ∷ segments_of (octets_of ss)) whole ∙ ap (λ t. s ∷ t) (segments_of-octets_of ss)

-- addresses are the same where their segments are
same_segments : (xs ys : List ℕ) → pointwise nat_eq xs ys ≡ pointwise nat_eq (octets_of xs) (octets_of ys)
same_segments xs ys =
    let d = pointwise_decides unsigned_Decides (octets_of xs) (octets_of ys) in
    same_from_decides _ _ (pointwise_decides unsigned_Decides xs ys) (
      λ e. sym (segments_of-octets_of xs) ∙ ap segments_of (d.0 e) ∙ segments_of-octets_of ys,
      λ e. d.1 (ap octets_of e),
    )

-- a list of eight is its eight elements
abbrev elements : List ℕ → List ℕ
elements xs = slice_index_or xs 0 0 ∷ slice_index_or xs 1 0 ∷ slice_index_or xs 2 0 ∷ slice_index_or xs 3 0
    ∷ slice_index_or xs 4 0 ∷ slice_index_or xs 5 0 ∷ slice_index_or xs 6 0 ∷ slice_index_or xs 7 0 ∷ []

eight : (xs : List ℕ) → length xs ≡ 8 → xs ≡ elements xs
eight (a ∷ b ∷ c ∷ d ∷ e ∷ f ∷ g ∷ h ∷ []) l = refl
eight xs l = absurd (omega (arith, l))

pub each_same : (xs ys : List ℕ) → length xs ≡ 8 → length ys ≡ 8
    → nat_eq (slice_index_or xs 0 0) (slice_index_or ys 0 0) && (nat_eq (slice_index_or xs 1 0) (slice_index_or ys 1 0)
    && (nat_eq (slice_index_or xs 2 0) (slice_index_or ys 2 0) && (nat_eq (slice_index_or xs 3 0) (slice_index_or ys 3 0)
    && (nat_eq (slice_index_or xs 4 0) (slice_index_or ys 4 0) && (nat_eq (slice_index_or xs 5 0) (slice_index_or ys 5 0)
    && (nat_eq (slice_index_or xs 6 0) (slice_index_or ys 6 0) && nat_eq (slice_index_or xs 7 0) (slice_index_or ys 7 0)))))))
    ≡ (pointwise nat_eq (octets_of xs) (octets_of ys) && true)
each_same xs ys l m =
    let parts = ap (λ x. pointwise nat_eq x ys) (eight xs l) ∙ ap (λ y. pointwise nat_eq (elements xs) y) (eight ys m) in
    let whole = sym (rw (and-true (nat_eq (slice_index_or xs 7 0) (slice_index_or ys 7 0))) at parts) ∙ same_segments xs ys in
    whole ∙ sym (and-true (pointwise nat_eq (octets_of xs) (octets_of ys)))
