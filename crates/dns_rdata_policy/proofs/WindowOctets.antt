-- The windows of a set, by the numbers in it and in another.
use Rattle.std.proofs.Common.{◌≡◌, ℕ, zero, suc, ◌+◌, ◌*◌, ◌/◌, ◌%◌, ◌<◌, ◌≤◌, Bool, true, false, cond, inl, inr, List, [], ◌∷◌, length, get_or, take}
use Rattle.std.proofs.Common.{map, refl, sym, ap, ◌∙◌, subst, arith, ◌≢◌, ◌-◌, ◌++◌, drop}
use Rattle.std.specs.{List.range_with_len}
use Rattle.std.proofs.lemmas.{Bool.cases_eq, Bool.cases_lt, Grind.same_number_lists}
use Rattle.std.proofs.lemmas.List.{get_or_past, FromFn.get_or-map-range_with_len, FromFn.length-map-range_with_len}
use Rattle.dns_fields.specs.Bitmaps.{contains, packed, mark, keep, trimmed, types_octet, window, Block, IsTypeSet, with_block, windows, minimal}
use Rattle.dns_rdata_policy.specs.RecordTypeSet.{IsLastOf, AreOfWindow, first_window}
use Rattle.dns_rdata_policy.proofs.Rising.{lacks, in_rest, ascends, front_only, from_on, small_at}

-- ---- one octet

packed_same : (f g : ℕ → ℕ) (n : ℕ) → ((b : ℕ) → b < n → f b ≡ g b) → packed f n ≡ packed g n
packed_same f g zero h = refl
packed_same f g (suc n) h = omega (arith, packed_same f g n (λ b l. h b (omega arith)), h n (omega arith))

packed_some : (f : ℕ → ℕ) (n i : ℕ) → i < n → 0 < f i → 0 < packed f n
packed_some f zero i l s = absurd (omega arith)
packed_some f (suc n) i l s = elim (cases_eq i n) [
  | inl e ↦ omega (arith, subst (λ (k : ℕ). 0 < f k) e s)
  | inr e ↦ omega (arith, packed_some f n i (omega (arith, e)) s)
]

number_is : (k x : ℕ) → x / 256 ≡ k → 256 * k + (8 * (x % 256 / 8) + x % 8) ≡ x
number_is k x e = omega (arith, e)

marked : (v : List ℕ) (k x : ℕ) (b : Bool) → x / 256 ≡ k → contains x v ≡ b → mark v (256 * k + (8 * (x % 256 / 8) + x % 8)) ≡ cond b 1 0
unfolding mark
marked v k x b e h = ap (λ (t : ℕ). cond (contains t v) 1 0) (number_is k x e) ∙ ap (λ (c : Bool). cond c 1 0) h

octet_some : (v : List ℕ) (k x : ℕ) → x / 256 ≡ k → contains x v ≡ true → 0 < types_octet v k (x % 256 / 8)
unfolding types_octet
octet_some v k x e h = packed_some (λ b. mark v (256 * k + (8 * (x % 256 / 8) + b))) 8 (x % 8) (omega arith) (omega (arith, marked v k x true e h))

octet_same : (v w : List ℕ) (k j : ℕ) → ((u : ℕ) → 256 * k + 8 * j ≤ u → u < 256 * k + 8 * j + 8 → contains u v ≡ contains u w)
    → types_octet v k j ≡ types_octet w k j
unfolding types_octet mark
octet_same v w k j h = packed_same (λ b. mark v (256 * k + (8 * j + b))) (λ b. mark w (256 * k + (8 * j + b))) 8
    (λ b l. ap (λ (c : Bool). cond c 1 0) (h (256 * k + (8 * j + b)) (omega arith) (omega arith)))

-- ---- lists without the zeros at the end

trimmed_zeros : (xs : List ℕ) → ((i : ℕ) → get_or xs i 0 ≡ 0) → trimmed xs ≡ []
trimmed_zeros [] z = refl
trimmed_zeros (x ∷ xs) z = ap (λ (y : ℕ). keep y (trimmed xs)) (z 0) ∙ ap (keep 0) (trimmed_zeros xs (λ i. z (suc i)))

-- the last octet that is no zero ends it
trimmed_last : (xs : List ℕ) (n : ℕ) → 0 < get_or xs n 0 → ((i : ℕ) → n < i → get_or xs i 0 ≡ 0) → trimmed xs ≡ take (suc n) xs
trimmed_last [] n s z = absurd (omega arith)
trimmed_last (zero ∷ xs) zero s z = absurd (omega arith)
trimmed_last (suc x ∷ xs) zero s z = ap (keep (suc x)) (trimmed_zeros xs (λ i. z (suc i) (omega arith)))
trimmed_last (x ∷ []) (suc n) s z = absurd (omega arith)
trimmed_last (x ∷ y ∷ xs) (suc n) s z = ap (keep x) (trimmed_last (y ∷ xs) n s (λ i l. z (suc i) (omega arith)))

-- ---- the octets of a window

-- with the zeros at the end
abbrev pub octets_of : List ℕ → ℕ → List ℕ
octets_of v k = map (types_octet v k) (range_with_len 0 32)

octet_at : (v : List ℕ) (k j : ℕ) → j < 32 → get_or (octets_of v k) j 0 ≡ types_octet v k j
octet_at v k j l = get_or-map-range_with_len (types_octet v k) 0 32 j j 0 l (omega arith)

pub octets_long : (v : List ℕ) (k : ℕ) → length (octets_of v k) ≡ 32
octets_long v k = length-map-range_with_len (types_octet v k) 0 32

pub octets_are : (v : List ℕ) (k : ℕ) (octets : List ℕ) → length octets ≡ 32 → ((j : ℕ) → j < 32 → get_or octets j 0 ≡ types_octet v k j)
    → octets ≡ octets_of v k
octets_are v k octets n same = same_number_lists octets (octets_of v k) (n ∙ sym (octets_long v k))
    (λ j l. let inside : j < 32 = omega (arith, n, l) in same j inside ∙ sym (octet_at v k j inside))

pub window_same : (v w : List ℕ) (k : ℕ) → ((u : ℕ) → u / 256 ≡ k → contains u v ≡ contains u w) → window v k ≡ window w k
unfolding window
window_same v w k h = ap trimmed (octets_are w k (octets_of v k) (octets_long v k)
    (λ j l. octet_at v k j l ∙ octet_same v w k j (λ u a b. h u (omega (arith, a, b, l)))))

pub window_empty : (k : ℕ) → window [] k ≡ []
unfolding window types_octet mark
window_empty k = refl

pub window_none : (v : List ℕ) (k : ℕ) → ((u : ℕ) → u / 256 ≡ k → contains u v ≡ false) → window v k ≡ []
window_none v k h = window_same v [] k h ∙ window_empty k

-- the octets up to that of its last type
pub window_last : (v : List ℕ) (k t : ℕ) → IsLastOf v k t → window v k ≡ take (t % 256 / 8 + 1) (octets_of v k)
unfolding window types_octet mark
window_last v k t h =
    let n : ℕ = t % 256 / 8 in
    let number_is : n + 1 ≡ suc n = omega arith in
    rw number_is (trimmed_last (octets_of v k) n (rw (octet_at v k n (omega arith)) (octet_some v k t h.of h.has)) (λ i l. elim (cases_lt i 32) [
      | inl m ↦ octet_at v k i m ∙ octet_same v [] k i (λ u a b. h.last u (omega (arith, h.of, l, a)) (omega (arith, m, a, b)))
      | inr m ↦ get_or_past (octets_of v k) i 0 (omega (arith, m, octets_long v k))
    ]))

-- ---- the windows of a set, and of the set behind its first window

pub some_block : (k : ℕ) (w : List ℕ) (bs : List Block) → 0 < length w → with_block k w bs ≡ (k, w) ∷ bs
some_block k [] bs l = absurd (omega arith)
some_block k (x ∷ w) bs l = refl

with_more : (k : ℕ) (w : List ℕ) (bs cs : List Block) → with_block k w (bs ++ cs) ≡ with_block k w bs ++ cs
with_more k [] bs cs = refl
with_more k (x ∷ w) bs cs = refl

pub windows_same : (v w : List ℕ) (a n : ℕ) → ((u : ℕ) → a ≤ u / 256 → u / 256 < a + n → contains u v ≡ contains u w)
    → windows v (range_with_len a n) ≡ windows w (range_with_len a n)
windows_same v w a zero h = refl
windows_same v w a (suc n) h =
    ap (λ (x : List ℕ). with_block a x (windows v (range_with_len (a + 1) n))) (window_same v w a (λ u e. h u (omega (arith, e)) (omega (arith, e))))
    ∙ ap (with_block a (window w a)) (windows_same v w (a + 1) n (λ u l m. h u (omega (arith, l)) (omega (arith, m))))

windows_empty : (a n : ℕ) → windows [] (range_with_len a n) ≡ []
windows_empty a zero = refl
windows_empty a (suc n) = rw window_empty (windows_empty (a + 1) n)

pub windows_none : (v : List ℕ) (a n : ℕ) → ((u : ℕ) → a ≤ u / 256 → u / 256 < a + n → contains u v ≡ false) → windows v (range_with_len a n) ≡ []
windows_none v a n none = windows_same v [] a n none ∙ windows_empty a n

pub minimal_none : minimal [] ≡ []
unfolding minimal
minimal_none = windows_empty 0 256

windows_split : (v : List ℕ) (a k n m b : ℕ) → k + n ≡ m → a + k ≡ b
    → windows v (range_with_len a m) ≡ windows v (range_with_len a k) ++ windows v (range_with_len b n)
windows_split v a zero n m b e f = let s : m ≡ n = omega arith in let t : b ≡ a = omega arith in rw (s, t) refl
windows_split v a (suc k) n zero b e f = absurd (omega arith)
windows_split v a (suc k) n (suc m) b e f =
    rw (windows_split v (a + 1) k n m b (omega arith) (omega arith), with_more) refl

-- the windows behind window k
abbrev pub behind_window : List ℕ → ℕ → List Block
behind_window v k = windows v (range_with_len (k + 1) (255 - k))

-- those in front of window k, it, and those behind it
pub minimal_at : (v : List ℕ) (k : ℕ) → k < 256 → minimal v ≡ windows v (range_with_len 0 k) ++ with_block k (window v k) (behind_window v k)
unfolding minimal
minimal_at v k l = windows_split v 0 k (suc (255 - k)) 256 k (omega arith) (omega arith)

-- e numbers are of the first window, and what is behind them is of later ones
pub minimal_next : (v : List ℕ) (e : ℕ) → IsTypeSet v → 0 < length v → 0 < e → AreOfWindow (first_window v) (take e v)
    → (e < length v → get_or v e 0 / 256 ≢ first_window v) → 0 < length (window (take e v) (first_window v))
    → minimal v ≡ (first_window v, window (take e v) (first_window v)) ∷ minimal (drop e v)
minimal_next v e s more some run next full =
    let k : ℕ = first_window v in
    let small : k < 256 = omega (arith, small_at v 0 s more) in
    let run_only : (u : ℕ) → u / 256 ≢ k → contains u (take e v) ≡ false = (λ u other. lacks (λ t. t / 256 ≡ k) (take e v) u run other) in
    let later : e < length v → 256 * (k + 1) ≤ get_or v e 0 = (λ l. omega (arith, next l, ascends v s.rises 0 e some l)) in
    let front : (u : ℕ) → u / 256 ≤ k → contains u v ≡ contains u (take e v) = (λ u m. front_only (256 * (k + 1)) e v s later u (omega (arith, m))) in
    let behind : (u : ℕ) → u / 256 ≤ k → contains u (drop e v) ≡ false = (λ u m. from_on (256 * (k + 1)) e v s later u (omega (arith, m))) in
    let first = windows_none v 0 k (λ u l m. front u (omega (arith, m)) ∙ run_only u (omega (arith, m))) in
    let here = window_same v (take e v) k (λ u q. front u (omega (arith, q))) in
    let rest : behind_window v k ≡ minimal (drop e v) =
    windows_same v (drop e v) (k + 1) (255 - k) (λ u l m. in_rest e v u (run_only u (omega (arith, l))))
    ∙ sym (rw (windows_none (drop e v) 0 k (λ u l m. behind u (omega (arith, m))), window_none (drop e v) k (λ u m. behind u (omega (arith, m)))) at
    (minimal_at (drop e v) k small)) in
    rw (first, here, rest) at (minimal_at v k small) ∙ some_block k (window (take e v) k) (minimal (drop e v)) full
