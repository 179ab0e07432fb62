-- The first octets as a number, and what their order tells.
use Rattle.std.proofs.Common.{◌≡◌, ◌≢◌, ℕ, zero, suc, ◌^◌, ◌<◌, ◌≤◌, List, [], ◌∷◌, ◌++◌, length, take, drop, get_or, replicate, refl, sym, ap, ◌∙◌, arith}
use Rattle.std.specs.{Int.from_be_bytes, Int.w64, Cmp.Lexicographic.slice_cmp, Ordering.nat_cmp, Ordering.ordering_then, declared.cmp.Ordering.Ordering}
use Rattle.std.specs.declared.cmp.Ordering.TheVariants.{Less, Equal, Greater}
use Rattle.std.specs.{Cmp.nat_cmp_is}
use Rattle.std.proofs.lemmas.{Cmp.nat_list_cmp_total, Cmp.tied_itself, Nat.be_bytes_8}
use Rattle.std.specs.Int.{bytes_high_first}
use Rattle.dns_fields.proofs.Numbers.{number_cmp}
use Rattle.dns_view.specs.Putting.{Put, padded, key_of}

-- what is written into zeros
pub front_padded : (n m : ℕ) (xs : List ℕ) → n ≤ m → take n (xs ++ drop (length xs) (replicate m 0)) ≡ padded n xs
front_padded zero m xs l = refl
front_padded (suc n) zero xs l = absurd (omega (arith, l))
front_padded (suc n) (suc m) [] l = ap (λ (s : List ℕ). 0 ∷ s) (front_padded n m [] (omega (arith, l)))
front_padded (suc n) (suc m) (x ∷ xs) l = ap (λ (s : List ℕ). x ∷ s) (front_padded n m xs (omega (arith, l)))

pub put_key : {new octets : List ℕ} {end : ℕ} → Put (replicate 8 0) new 0 end octets → from_be_bytes w64 new ≡ key_of octets
put_key {new} {octets} {end} p =
    ap (from_be_bytes w64) (p.written ∙ ap (λ (k : ℕ). take 8 (octets ++ drop k (replicate 8 0))) (let e : end ≡ length octets = omega (arith, p.ends) in e)
    ∙ front_padded 8 8 octets (omega arith))

-- ---- what the order of two keys tells

less : (a b : ℕ) → a < b → nat_cmp a b ≡ Less
less a b l = sym (nat_cmp_is a b Less l)

itself : (xs : List ℕ) → slice_cmp nat_cmp xs xs ≡ Equal
itself xs = tied_itself nat_list_cmp_total xs

zeros_last : (n : ℕ) (xs : List ℕ) → slice_cmp nat_cmp (padded n xs) (padded n []) ≢ Less
zeros_last zero xs g = cc g
zeros_last (suc n) [] g = let e = itself (padded (suc n) []) in cc (e, g)
zeros_last (suc n) (zero ∷ xs) g = zeros_last n xs g
zeros_last (suc n) (suc x ∷ xs) g =
    let e : ordering_then (nat_cmp (suc x) 0) (slice_cmp nat_cmp (padded n xs) (padded n [])) ≡ Greater =
    ap (λ (o : Ordering). ordering_then o (slice_cmp nat_cmp (padded n xs) (padded n []))) (sym (nat_cmp_is (suc x) 0 Greater (omega arith))) in
    cc (e, g)

-- the first octets that differ
padded_tell : (n : ℕ) (xs ys : List ℕ) → slice_cmp nat_cmp (padded n xs) (padded n ys) ≡ Less → slice_cmp nat_cmp xs ys ≡ Less
padded_tell zero xs ys h = cc h
padded_tell (suc n) [] [] h = let e = itself (padded (suc n) []) in cc (e, h)
padded_tell (suc n) [] (y ∷ ys) h = refl
padded_tell (suc n) (x ∷ xs) [] h = absurd (zeros_last (suc n) (x ∷ xs) h)
padded_tell (suc n) (x ∷ xs) (y ∷ ys) h = then_less (nat_cmp x y) h (padded_tell n xs ys) where
  then_less : (o : Ordering) → ordering_then o (slice_cmp nat_cmp (padded n xs) (padded n ys)) ≡ Less
      → (slice_cmp nat_cmp (padded n xs) (padded n ys) ≡ Less → slice_cmp nat_cmp xs ys ≡ Less) → ordering_then o (slice_cmp nat_cmp xs ys) ≡ Less
  then_less Less h k = refl
  then_less Equal h k = k h
  then_less Greater h k = h

-- ---- by the numbers

abbrev Small : List ℕ → Type 0
Small xs = (i : ℕ) → get_or xs i 0 < 256

length-padded : (n : ℕ) (xs : List ℕ) → length (padded n xs) ≡ n
length-padded zero xs = refl
length-padded (suc n) [] = omega (arith, length-padded n [])
length-padded (suc n) (x ∷ xs) = omega (arith, length-padded n xs)

small-padded : (n : ℕ) (xs : List ℕ) → Small xs → Small (padded n xs)
small-padded zero xs h i = omega arith
small-padded (suc n) [] h zero = omega arith
small-padded (suc n) [] h (suc i) = small-padded n [] h i
small-padded (suc n) (x ∷ xs) h zero = h zero
small-padded (suc n) (x ∷ xs) h (suc i) = small-padded n xs (λ j. h (suc j)) i

bound : (s : List ℕ) → length s ≡ 8 → Small s → from_be_bytes w64 s < 256 ^ 8
bound (a ∷ b ∷ c ∷ d ∷ e ∷ f ∷ g ∷ h ∷ []) l small = omega (arith, small 0, small 1, small 2, small 3, small 4, small 5, small 6, small 7)
bound s l small = absurd (omega (arith, l))

key_bytes : (xs : List ℕ) → Small xs → bytes_high_first 8 (key_of xs) ≡ padded 8 xs
key_bytes xs h = be_bytes_8 (padded 8 xs) (key_of xs) (length-padded 8 xs) (small-padded 8 xs h) refl

-- of two lists of octets with different keys the one with the lesser key comes first
pub keys_tell : (xs ys : List ℕ) → Small xs → Small ys → key_of xs < key_of ys → slice_cmp nat_cmp xs ys ≡ Less
keys_tell xs ys h k l =
    let small : (zs : List ℕ) → Small zs → key_of zs < 256 ^ 8 = λ zs s. bound (padded 8 zs) (length-padded 8 zs) (small-padded 8 zs s) in
    padded_tell 8 xs ys ((λ i. slice_cmp nat_cmp (sym (key_bytes xs h) i) (sym (key_bytes ys k) i))
    ∙ number_cmp 8 (key_of xs) (key_of ys) (small xs h) (small ys k) ∙ less (key_of xs) (key_of ys) l)
