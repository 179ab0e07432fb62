-- Octets are a bitmap of one set, and the minimal bitmap of a set is one of them.
use Rattle.std.proofs.Common.{◌≡◌, ◌≢◌, ℕ, zero, suc, ◌+◌, ◌-◌, ◌*◌, ◌/◌, ◌%◌, ◌≤◌, ◌<◌, ◌^◌, ◌==◌, ◌&&◌, ◌||◌, Bool, true, false, cond, ◌⊎◌, inl}
use Rattle.std.proofs.Common.{inr, ⊎_elim, List, [], ◌∷◌, ◌++◌, length, get_or, map, refl, sym, ap, ◌∙◌, arith, subst, pow-suc}
use Rattle.std.specs.{List.flat_map, List.AllByRecursion, List.list_any, List.range_with_len, Int.bit_at}
use Rattle.std.proofs.{Math.Bool.and-false, lemmas.Bool.Decides.eqb_tells, lemmas.Bool.Decides.nat_tests, lemmas.Bool.cases_lt}
use Rattle.std.proofs.lemmas.List.FromFn.{get_or-map-range_with_len, length-map-range_with_len}
use Rattle.std.proofs.lemmas.Nat.Bits.{bit_at_lowest, bit_at-zero, bit_at_cat_low, bit_at_cat_high}
use Rattle.dns_fields.specs.Bitmaps.{Block, block, IsBlock, has_type, contains, AllAbove, Rises, IsTypeSet, BitmapAt, packed, mark, keep, trimmed}
use Rattle.dns_fields.specs.Bitmaps.{types_octet, window, with_block, windows, minimal}
use Rattle.dns_fields.proofs.{NameOffsets.At-same_end, NameOffsets.At-appended, NameOffsets.At-append, Tlvs.parts, Tlvs.joined_same}

-- ---- blocks are told by their octets

first_block : (a b : Block) (x y : List ℕ) → IsBlock a → IsBlock b → block a ++ x ≡ block b ++ y → (a ≡ b) × (x ≡ y)
first_block a b x y i j e =
    let f : a.0 ∷ length a.1 ∷ (a.1 ++ x) ≡ b.0 ∷ length b.1 ∷ (b.1 ++ y) = e in
    let k : a.0 ≡ b.0 = cc in
    let n : length a.1 ≡ length b.1 = cc in
    let t : a.1 ++ x ≡ b.1 ++ y = cc in
    let h = parts a.1 x b.1 y n t in
    (ap (λ (z : ℕ). (z, a.1)) k ∙ ap (λ (o : List ℕ). (b.0, o)) h.0, h.1)

-- ---- a rising list is told by what it contains

itself : (x : ℕ) → (x == x) ≡ true
itself x = grind (arith, nat_tests)

other : (x t : ℕ) → x ≢ t → (x == t) ≡ false
other x t n = grind (arith, nat_tests)

above_not : (n : ℕ) (xs : List ℕ) → AllAbove n xs → contains n xs ≡ false
above_not n [] a = refl
above_not n (x ∷ xs) a = rw (other x n (λ q. omega (arith, q, a.0))) (above_not n xs a.1)

less_above : (n k : ℕ) (xs : List ℕ) → n < k → AllAbove k xs → AllAbove n xs
less_above n k [] l a = tt
less_above n k (x ∷ xs) l a = (omega (arith, a.0), less_above n k xs l a.1)

rising_tail : (x : ℕ) (xs ys : List ℕ) → AllAbove x xs → AllAbove x ys → ((t : ℕ) → contains t (x ∷ xs) ≡ contains t (x ∷ ys)) → (t : ℕ)
    → contains t xs ≡ contains t ys
rising_tail x xs ys a b h t = elim (eqb_tells x t) [
  | inl e ↦ subst (λ (z : ℕ). contains z xs ≡ contains z ys) e.1 (above_not x xs a ∙ sym (above_not x ys b))
  | inr e ↦ (let g : (x == t) || contains t xs ≡ (x == t)
      || contains t ys = h t in let n : (x == t) ≡ false = e.0 in let goal : contains t xs ≡ contains t ys = rw n at g in goal)
]

heads_equal : (x y : ℕ) (xs ys : List ℕ) → AllAbove x xs → AllAbove y ys → ((t : ℕ) → contains t (x ∷ xs) ≡ contains t (y ∷ ys)) → x < y → ⊥
heads_equal x y xs ys a b h l =
    let g : (x == x) || contains x xs ≡ contains x (y ∷ ys) = h x in
    let no : contains x (y ∷ ys) ≡ false = above_not x (y ∷ ys) (l, less_above x y ys l b) in
    let f : true ≡ contains x (y ∷ ys) = rw (itself x) at g in
    let bad : true ≡ false = f ∙ no in
    cc bad

trichotomy : (x y : ℕ) → (x < y) ⊎ ((x ≡ y) ⊎ (y < x))
trichotomy x y = elim (eqb_tells x y) [ inl e ↦ inr (inl e.1) | inr e ↦ apart x y e.1 ] where
  apart : (x y : ℕ) → x ≢ y → (x < y) ⊎ ((x ≡ y) ⊎ (y < x))
  apart x y n = grind arith

rising_same : (a b : List ℕ) → Rises a → Rises b → ((t : ℕ) → contains t a ≡ contains t b) → a ≡ b
rising_same [] [] f g h = refl
rising_same [] (y ∷ ys) f g h = absurd (let k : false ≡ true = rw (itself y) at (h y) in cc k)
rising_same (x ∷ xs) [] f g h = absurd (let k : true ≡ false = rw (itself x) at (h x) in cc k)
rising_same (x ∷ xs) (y ∷ ys) f g h = ⊎_elim
    (λ (l : x < y). absurd (heads_equal x y xs ys f.0 g.0 h l))
    (λ s. ⊎_elim
    (λ (e : x ≡ y). let rest = rising_same xs ys f.1 g.1 (rising_tail x xs ys f.0 (rw e g.0) (rw (← e) at h)) in cc)
    (λ (l : y < x). absurd (heads_equal y x ys xs g.0 f.0 (λ t. sym (h t)) l)) s)
    (trichotomy x y)

pub bitmap_same : {m : List ℕ} {p : ℕ} {v w : List ℕ} {q : ℕ} → BitmapAt m p v q → BitmapAt m p w q → v ≡ w
bitmap_same {v = v} {w = w} f g =
    let e : f.blocks ≡ g.blocks = joined_same block IsBlock (λ b i. omega arith) first_block f.blocks g.blocks f.fit g.fit (At-same_end f.at g.at) in
    rising_same v w f.set.rises g.set.rises (λ t. f.types t ∙ ap (list_any (has_type t)) e ∙ sym (g.types t))

pub bitmap_append : {m : List ℕ} {p : ℕ} {v : List ℕ} {q : ℕ} (t : List ℕ) → BitmapAt m p v q → BitmapAt (m ++ t) p v q
bitmap_append t f = record { blocks = f.blocks; at = At-append t f.at; fit = f.fit; set = f.set; types = f.types }

-- ---- the minimal bitmap

pub packed_less : (f : ℕ → ℕ) → ((b : ℕ) → f b < 2) → (n : ℕ) → packed f n < 2 ^ n
packed_less f s zero = omega arith
packed_less f s (suc n) = omega (arith, packed_less f s n, s n, pow-suc 2 n)

pub packed_bit : (f : ℕ → ℕ) → ((b : ℕ) → f b < 2) → (n i : ℕ) → i < n → bit_at (packed f n) (n - 1 - i) ≡ f i
packed_bit f small zero i l = absurd (omega arith)
packed_bit f small (suc n) i l = elim (eqb_tells i n) [
  | inl e ↦ (let z : suc n - 1 - i ≡ 0 = omega (arith, e.1) in
      rw (z, e.1) (bit_at_cat_low (packed f n) 1 (f n) 0 (omega arith) ∙ bit_at_lowest (f n) ∙ last (f n) (small n)))
  | inr e ↦ (
      let below : i < n = omega (arith, l, e.1) in
      let z : suc n - 1 - i ≡ suc (n - 1 - i) = omega (arith, below) in
      let y : suc (n - 1 - i) - 1 ≡ n - 1 - i = omega arith in
      rw z (bit_at_cat_high (packed f n) 1 (f n) (suc (n - 1 - i)) (small n) (omega arith) ∙ rw y (packed_bit f small n i below)))
]
  where
    last : (n : ℕ) → n < 2 → n % 2 ≡ n
    last n h = omega arith

keep_get : (x : ℕ) (xs : List ℕ) (i : ℕ) → get_or (keep x xs) i 0 ≡ get_or (x ∷ xs) i 0
keep_get zero [] zero = refl
keep_get zero [] (suc i) = refl
keep_get (suc n) [] i = refl
keep_get x (y ∷ ys) i = refl

trimmed_get : (xs : List ℕ) (i : ℕ) → get_or (trimmed xs) i 0 ≡ get_or xs i 0
trimmed_get [] i = refl
trimmed_get (x ∷ xs) zero = keep_get x (trimmed xs) zero
trimmed_get (x ∷ xs) (suc i) = keep_get x (trimmed xs) (suc i) ∙ trimmed_get xs i

keep_length : (x : ℕ) (xs : List ℕ) → length (keep x xs) ≤ suc (length xs)
keep_length zero [] = omega arith
keep_length (suc n) [] = omega arith
keep_length x (y ∷ ys) = omega arith

trimmed_length : (xs : List ℕ) → length (trimmed xs) ≤ length xs
trimmed_length [] = omega arith
trimmed_length (x ∷ xs) = omega (arith, keep_length x (trimmed xs), trimmed_length xs)

pub mark_small : (v : List ℕ) (t : ℕ) → mark v t < 2
unfolding mark
mark_small v t = elim (contains t v) as (λ b. cond b 1 0 < 2) [ true ↦ omega arith | false ↦ omega arith ]

mark_contains : (v : List ℕ) (t : ℕ) → (mark v t == 1) ≡ contains t v
unfolding mark
mark_contains v t = elim (contains t v) as (λ b. (cond b 1 0 == 1) ≡ b) [ true ↦ refl | false ↦ refl ]

window_bit : (v : List ℕ) (t : ℕ) → bit_at (get_or (window v (t / 256)) (t % 256 / 8) 0) (7 - t % 8) ≡ mark v t
unfolding window types_octet
window_bit v t =
    let j : ℕ = t % 256 / 8 in
    let k : ℕ = t / 256 in
    let f : ℕ → ℕ = λ b. mark v (256 * k + (8 * j + b)) in
    let number_is : 256 * (t / 256) + (8 * (t % 256 / 8) + t % 8) ≡ t = omega arith in
    let inside : t % 256 / 8 < 32 = omega arith in
    let low : t % 8 < 8 = omega arith in
    ap (λ (o : ℕ). bit_at o (7 - t % 8)) (trimmed_get (map (types_octet v k) (range_with_len 0 32)) j
    ∙ get_or-map-range_with_len (types_octet v k) 0 32 j j 0 inside (omega arith))
    ∙ packed_bit f (λ b. mark_small v (256 * k + (8 * j + b))) 8 (t % 8) low
    ∙ ap (mark v) number_is

-- the block of window k has a type exactly where the set has it and k is its window
window_has : (v : List ℕ) (t k : ℕ) → has_type t (k, window v k) ≡ (t / 256 == k) && contains t v
unfolding has_type
window_has v t k = elim (eqb_tells (t / 256) k) [
  | inl e ↦ subst (λ (z : ℕ). (t / 256 == z) && (bit_at (get_or (window v z) (t % 256 / 8) 0) (7 - t % 8) == 1) ≡ (t / 256 == z) && contains t v) e.1
      (ap (λ (b : ℕ). (t / 256 == t / 256) && (b == 1)) (window_bit v t) ∙ ap (λ (b : Bool). (t / 256 == t / 256) && b) (mark_contains v t))
  | inr e ↦ (let n : (t / 256 == k) ≡ false = e.0 in rw n refl)
]

with_has : (t k : ℕ) (w : List ℕ) (bs : List Block) → list_any (has_type t) (with_block k w bs) ≡ has_type t (k, w) || list_any (has_type t) bs
unfolding has_type
with_has t k [] bs = let z : bit_at 0 (7 - t % 8) ≡ 0 = bit_at-zero (7 - t % 8) in
    ap (λ (b : Bool). b || list_any (has_type t) bs) (sym (and-false (t / 256 == k)) ∙ ap (λ (n : ℕ). (t / 256 == k) && (n == 1)) (sym z))
with_has t k (x ∷ xs) bs = refl

windows_have : (v : List ℕ) (t : ℕ) (ks : List ℕ) → list_any (has_type t) (windows v ks) ≡ list_any (λ k. t / 256 == k) ks && contains t v
windows_have v t [] = refl
windows_have v t (k ∷ ks) =
    with_has t k (window v k) (windows v ks) ∙ ap (λ (b : Bool). b || list_any (has_type t) (windows v ks)) (window_has v t k)
    ∙ ap (λ (b : Bool). ((t / 256 == k) && contains t v) || b) (windows_have v t ks)
    ∙ spread (t / 256 == k) (list_any (λ k. t / 256 == k) ks) (contains t v)
  where
    spread : (a b c : Bool) → (a && c) || (b && c) ≡ (a || b) && c
    spread true b true = refl
    spread true true false = refl
    spread true false false = refl
    spread false b c = refl

in_range : (a n x : ℕ) → a ≤ x → x < a + n → list_any (λ k. x == k) (range_with_len a n) ≡ true
in_range a zero x l h = absurd (omega arith)
in_range a (suc n) x l h = elim (eqb_tells x a) [
  | inl e ↦ rw e.0 refl
  | inr e ↦ (let s : a + 1 ≤ x = omega (arith, l, e.1) in rw e.0 (in_range (a + 1) n x s (omega arith)))
]

-- a set has no number past its numbers
pub none_great : (n : ℕ) (v : List ℕ) (t : ℕ) → AllByRecursion (λ u. u < n) v → n ≤ t → contains t v ≡ false
none_great n [] t a l = refl
none_great n (x ∷ xs) t a l = rw (other x t (λ q. omega (arith, q, a.0))) (none_great n xs t a.1 l)

pub minimal_types : (v : List ℕ) → AllByRecursion (λ t. t < 65536) v → (t : ℕ) → contains t v ≡ list_any (has_type t) (minimal v)
unfolding minimal
minimal_types v a t = ⊎_elim
    (λ (l : t < 65536). rw (windows_have v t (range_with_len 0 256), in_range 0 256 (t / 256) (omega arith) (omega arith)) refl)
    (λ (g : 65536 ≤ t). rw (windows_have v t (range_with_len 0 256), none_great 65536 v t a g) (sym (and-false (list_any (λ k. t / 256 == k) (range_with_len 0 256)))))
    (cases_lt t 65536)

window_short : (v : List ℕ) (k : ℕ) → length (window v k) ≤ 32
unfolding window
window_short v k = let n = length-map-range_with_len (types_octet v k) 0 32 in let h = trimmed_length (map (types_octet v k) (range_with_len 0 32)) in
    omega (arith, n, h)

-- what holds of the octets of each window holds of each block of the minimal bitmap
pub minimal_all : (P : Block → Type 0) (v : List ℕ) → ((k : ℕ) → k < 256 → 1 ≤ length (window v k) → P (k, window v k)) → AllByRecursion P (minimal v)
unfolding minimal
minimal_all P v one = each 0 256 one where
  with_one : (k : ℕ) (w : List ℕ) (bs : List Block) → (1 ≤ length w → P (k, w)) → AllByRecursion P bs → AllByRecursion P (with_block k w bs)
  with_one k [] bs f h = h
  with_one k (x ∷ xs) bs f h = (f (omega arith), h)

  each : (a n : ℕ) → ((k : ℕ) → k < a + n → 1 ≤ length (window v k) → P (k, window v k)) → AllByRecursion P (windows v (range_with_len a n))
  each a zero f = tt
  each a (suc n) f = with_one a (window v a) (windows v (range_with_len (a + 1) n)) (f a (omega arith)) (each (a + 1) n (λ k l. f k (omega arith)))

pub minimal_fit : (v : List ℕ) → AllByRecursion IsBlock (minimal v)
minimal_fit v = minimal_all IsBlock v (λ k l some. record { number = l; some = some; most = window_short v k })

pub minimal_stands : (m v : List ℕ) → IsTypeSet v → BitmapAt (m ++ flat_map block (minimal v)) (length m) v (length (m ++ flat_map block (minimal v)))
minimal_stands m v s = record {
  blocks = minimal v;
  at = At-appended m (flat_map block (minimal v));
  fit = minimal_fit v;
  set = s;
  types =
      minimal_types v s.numbers;
}

-- ---- windows past the last type are none

packed_none : (f : ℕ → ℕ) → ((b : ℕ) → f b ≡ 0) → (n : ℕ) → packed f n ≡ 0
packed_none f none zero = refl
packed_none f none (suc n) = let h = packed_none f none n in let k = none n in omega (arith, h, k)

trimmed_none : (f : ℕ → ℕ) → ((j : ℕ) → f j ≡ 0) → (js : List ℕ) → trimmed (map f js) ≡ []
trimmed_none f none [] = refl
trimmed_none f none (j ∷ js) = ap (λ (x : ℕ). keep x (trimmed (map f js))) (none j) ∙ ap (keep 0) (trimmed_none f none js)

window_none : (v : List ℕ) (k : ℕ) → AllByRecursion (λ u. u < 256 * k) v → window v k ≡ []
unfolding window types_octet mark
window_none v k a =
    trimmed_none (types_octet v k)
    (λ j. packed_none (λ b. mark v (256 * k + (8 * j + b)))
    (λ b. ap (λ (c : Bool). cond c 1 0) (none_great (256 * k) v (256 * k + (8 * j + b)) a (omega arith))) 8)
    (range_with_len 0 32)

wider : (n k : ℕ) (v : List ℕ) → n ≤ k → AllByRecursion (λ u. u < n) v → AllByRecursion (λ u. u < k) v
wider n k [] l a = tt
wider n k (x ∷ xs) l a = (omega (arith, a.0), wider n k xs l a.1)

windows_none : (v : List ℕ) (a n : ℕ) → AllByRecursion (λ u. u < 256 * a) v → windows v (range_with_len a n) ≡ []
windows_none v a zero h = refl
windows_none v a (suc n) h = ap (λ (w : List ℕ). with_block a w (windows v (range_with_len (a + 1) n))) (window_none v a h)
    ∙ windows_none v (a + 1) n (wider (256 * a) (256 * (a + 1)) v (omega arith) h)

windows_first : (v : List ℕ) (a k n : ℕ) → AllByRecursion (λ u. u < 256 * (a + k)) v → windows v (range_with_len a (k + n)) ≡ windows v (range_with_len a k)
windows_first v a zero n h = windows_none v a (zero + n) (wider (256 * (a + 0)) (256 * a) v (omega arith) h)
windows_first v a (suc k) n h =
    let longer : suc k + n ≡ suc (k + n) = omega arith in
    ap (λ (c : ℕ). windows v (range_with_len a c)) longer
    ∙ ap (with_block a (window v a)) (windows_first v (a + 1) k n (wider (256 * (a + suc k)) (256 * (a + 1 + k)) v (omega arith) h))

-- the minimal bitmap of a set whose types are below those of window k
pub minimal_first : (v : List ℕ) (k : ℕ) → k ≤ 256 → AllByRecursion (λ u. u < 256 * k) v → minimal v ≡ windows v (range_with_len 0 k)
unfolding minimal
minimal_first v k l h =
    let all : k + (256 - k) ≡ 256 = omega arith in
    ap (λ (c : ℕ). windows v (range_with_len 0 c)) (sym all) ∙ windows_first v 0 k (256 - k) (wider (256 * k) (256 * (0 + k)) v (omega arith) h)
