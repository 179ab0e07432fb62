-- The canonical octets of one option.
use Rattle.std.proofs.Common.{◌≡◌, ◌≢◌, ℕ, ◌+◌, ◌-◌, ◌/◌, ◌%◌, ◌^◌, ◌≤◌, ◌<◌, ◌⊎◌, ⊎_elim, true, false, ◌==◌, nat_le, List, [], ◌∷◌, ◌++◌, length, take, drop, get_or}
use Rattle.std.proofs.Common.{refl, sym, ap, ◌∙◌, arith, append_assoc}
use Rattle.std.proofs.lemmas.List.{length-append, take_at, take_all, drop_at}
use Rattle.std.proofs.lemmas.Bool.{cases_Bool, Decides.nat_tests}
use Rattle.std.specs.{Int.bytes_high_first, Cmp.first_so, Cmp.second_so, Cmp.Lexicographic.slice_cmp, FinMap.nat_cmp-IsAntisymmetric, Ordering.nat_cmp, Ordering.ordering_then}
use Rattle.std.specs.declared.cmp.Ordering.{Ordering, TheVariants.Less, TheVariants.Equal, TheVariants.Greater}
use Rattle.dns_fields.specs.Tlvs.{OptionValue, Subnet, OpaqueOption, OptionHeld, IsTlv, tlv, option_octets}
use Rattle.dns_fields.proofs.{Numbers.length-bytes, Numbers.number_cmp, Tlvs.length-tlv}
use Rattle.dns_canonical.proofs.{Fronts.front_then, Comparing.then_kept}
use Rattle.dns_check.specs.Parameters.{IsTlvAt}
use Rattle.dns_view.specs.OptionOctets.{value_size, option_at, subnet_size, is_subnet, own_octets}
use Rattle.dns_check.proofs.{HeldLists.size_there, Alone.between_is}

-- ---- client subnets

not_short : (n : ℕ) → 4 ≤ n → nat_le 4 n ≡ true
not_short n h = grind (arith, nat_tests)

pub own_subnet : (p : List ℕ) → 4 ≤ length p → is_subnet p ≡ true → own_octets p ≡ 0 ∷ 8 ∷ 0 ∷ subnet_size p ∷ take (subnet_size p) (drop 4 p)
unfolding own_octets
own_subnet p l h = rw (not_short (length p) l, h) refl

pub own_plain : (p : List ℕ) → 4 ≤ length p → is_subnet p ≡ false → own_octets p ≡ p
unfolding own_octets
own_plain p l h = rw (not_short (length p) l, h) refl

pub own_short : (p : List ℕ) → length p < 4 → own_octets p ≡ []
unfolding own_octets
own_short p l = rw (short (length p) l) refl where
  short : (n : ℕ) → n < 4 → nat_le 4 n ≡ false
  short n h = grind (arith, nat_tests)

-- what the test of a client subnet tells
pub record SubnetThere (p : List ℕ) : Type 0 where
  pub high : get_or p 0 0 ≡ 0
  pub low : get_or p 1 0 ≡ 8
  pub all : 4 + subnet_size p ≤ length p

pub subnet_there : (p : List ℕ) → is_subnet p ≡ true → SubnetThere p
subnet_there p h =
    let a = second_so (nat_le 8 (length p)) _ h in
    let b = second_so (get_or p 0 0 == 0) _ a in
    let x : (get_or p 0 0 == 0) ≡ true = first_so (get_or p 0 0 == 0) _ a in
    let y : (get_or p 1 0 == 8) ≡ true = first_so (get_or p 1 0 == 8) _ b in
    let z : nat_le (4 + subnet_size p) (length p) ≡ true = second_so (get_or p 1 0 == 8) _ b in
    record { high = is_nat (get_or p 0 0) 0 x; low = is_nat (get_or p 1 0) 8 y; all = at_most (4 + subnet_size p) (length p) z }
  where
    is_nat : (a b : ℕ) → (a == b) ≡ true → a ≡ b
    is_nat a b h = grind (arith, nat_tests)

    at_most : (a b : ℕ) → nat_le a b ≡ true → a ≤ b
    at_most a b h = grind (arith, nat_tests)

pub there_subnet : (p : List ℕ) → SubnetThere p → is_subnet p ≡ true
there_subnet p s = rw (is_nat (get_or p 0 0) 0 s.high, is_nat (get_or p 1 0) 8 s.low, at_most (4 + subnet_size p) (length p) s.all, at_most 8 (length p) (omega (arith, s.all)))
    refl
  where
    is_nat : (a b : ℕ) → a ≡ b → (a == b) ≡ true
    is_nat a b h = grind (arith, nat_tests)

    at_most : (a b : ℕ) → a ≤ b → nat_le a b ≡ true
    at_most a b h = grind (arith, nat_tests)

-- ---- an option that holds a value

rest_of : (code : ℕ) (body part : List ℕ) → part ≡ tlv (code, body) → drop 4 part ≡ body
rest_of code body part e =
    let n : length (bytes_high_first 2 code ++ bytes_high_first 2 (length body)) ≡ 4 =
    omega (arith, length-append (bytes_high_first 2 code) (bytes_high_first 2 (length body)), length-bytes 2 code, length-bytes 2 (length body)) in
    ap (drop 4) (e ∙ sym (append_assoc (bytes_high_first 2 code) (bytes_high_first 2 (length body)) body))
    ∙ drop_at (bytes_high_first 2 code ++ bytes_high_first 2 (length body)) body 4 n

-- the code in the first two octets
code_high : (code : ℕ) (body part : List ℕ) → part ≡ tlv (code, body) → get_or part 0 0 ≡ code / 256 % 256
code_high code body part e = ap (λ (l : List ℕ). get_or l 0 0) e

code_low : (code : ℕ) (body part : List ℕ) → part ≡ tlv (code, body) → get_or part 1 0 ≡ code % 256
code_low code body part e = ap (λ (l : List ℕ). get_or l 1 0) e

subnet_long : (f s c : ℕ) (a : List ℕ) → length (option_octets (Subnet f s c a)) ≡ 4 + length a
subnet_long f s c a = omega (arith, length-append (bytes_high_first 2 f) (s ∷ c ∷ a), length-bytes 2 f)

-- the source prefix of a subnet
source_is : (body part : List ℕ) (f s c : ℕ) (a surplus : List ℕ) → part ≡ tlv (8, body) → body ≡ option_octets (Subnet f s c a) ++ surplus
    → get_or part 6 0 ≡ s
source_is body part f s c a surplus e is =
    ap (λ (l : List ℕ). get_or l 6 0) e ∙ ap (λ (l : List ℕ). get_or (bytes_high_first 2 8 ++ (bytes_high_first 2 (length body) ++ l)) 6 0) is

two_small : (n : ℕ) → n < 256 → bytes_high_first 2 n ≡ 0 ∷ n ∷ []
two_small n h =
    let a : n / 256 % 256 ≡ 0 = omega (arith, h) in
    let b : n % 256 ≡ n = omega (arith, h) in
    rw (a, b) refl

-- its canonical octets are code, length and octets of the value
pub own_is : (part : List ℕ) (code : ℕ) (body : List ℕ) (v : OptionValue) → part ≡ tlv (code, body) → IsTlv (code, body) → OptionHeld code body v
    → own_octets part ≡ tlv (code, option_octets v)
own_is part code body (OpaqueOption s) e fits held = ⊎_elim
    (λ (t : is_subnet part ≡ true).
    let h = subnet_there part t in
    absurd (held.0 (omega (arith, fits.0, h.high, h.low, code_high code body part e, code_low code body part e))))
    (λ (f : is_subnet part ≡ false). own_plain part (omega (arith, ap length e, length-tlv (code, body))) f ∙ e ∙ ap (λ (x : List ℕ). tlv (code, x)) held.1) (cases_Bool (is_subnet part))
own_is part code body (Subnet f s c a) e fits held =
    let g : part ≡ tlv (8, body) = e ∙ ap (λ (k : ℕ). tlv (k, body)) held.0 in
    let own = option_octets (Subnet f s c a) in
    let source : get_or part 6 0 ≡ s = source_is body part f s c a held.2 g held.3 in
    let long : subnet_size part ≡ length own = omega (arith, source, held.1.long, subnet_long f s c a) in
    let all : 4 + subnet_size part ≤ length part =
    omega (arith, long, ap length g, length-tlv (8, body), ap length held.3, length-append own held.2) in
    let few : subnet_size part < 256 = few_of f a held.1.most (omega (arith, long, subnet_long f s c a)) in
    let value : take (subnet_size part) (drop 4 part) ≡ own = ap (take (subnet_size part)) (rest_of 8 body part g ∙ held.3)
    ∙ take_at own held.2 (subnet_size part) (sym long) in
    let head : tlv (8, own) ≡ 0 ∷ 8 ∷ 0 ∷ subnet_size part ∷ own =
    ap (λ (k : ℕ). bytes_high_first 2 8 ++ (bytes_high_first 2 k ++ own)) (sym long)
    ∙ ap (λ (h : List ℕ). bytes_high_first 2 8 ++ (h ++ own)) (two_small (subnet_size part) few) in
    own_subnet part (omega (arith, all)) (there_subnet part (record { high = code_high 8 body part g; low = code_low 8 body part g; all = all }))
    ∙ ap (λ (x : List ℕ). 0 ∷ 8 ∷ 0 ∷ subnet_size part ∷ x) value ∙ sym head ∙ ap (λ (k : ℕ). tlv (k, own)) (sym held.0)
  where
    few_of : (f : ℕ) (a : List ℕ) {n : ℕ} → ((f ≡ 1) × (length a ≤ 4)) ⊎ ((f ≡ 2) × (length a ≤ 16)) → n ≡ 4 + length a → n < 256
    few_of f a {n} m e = ⊎_elim (λ (x : (f ≡ 1) × (length a ≤ 4)). omega (arith, e, x.1)) (λ (x : (f ≡ 2) × (length a ≤ 16)). omega (arith, e, x.1)) m

-- ---- the option at an offset

pub whole_at : (m : List ℕ) (o : ℕ) → o + 4 + value_size m o ≤ length m → option_at m o ≡ take (4 + value_size m o) (drop o m)
unfolding option_at
whole_at m o h = rw (at_most (o + 4 + value_size m o) (length m) h) refl where
  at_most : (a b : ℕ) → a ≤ b → nat_le a b ≡ true
  at_most a b h = grind (arith, nat_tests)

pub none_at : (m : List ℕ) (o : ℕ) → length m < o + 4 + value_size m o → option_at m o ≡ []
unfolding option_at
none_at m o h = rw (past (o + 4 + value_size m o) (length m) h) refl where
  past : (a b : ℕ) → b < a → nat_le a b ≡ false
  past a b h = grind (arith, nat_tests)

pub tlv_at : {m : List ℕ} {o : ℕ} (code : ℕ) (body : List ℕ) {q : ℕ} → IsTlvAt m o code body q → option_at m o ≡ tlv (code, body)
tlv_at {m} {o} code body {q} t =
    let there : q ≡ o + 4 + value_size m o = size_there t refl in
    let n : 4 + value_size m o ≡ q - o = omega (arith, there) in
    whole_at m o (omega (arith, there, t.at.within)) ∙ ap (λ (k : ℕ). take k (drop o m)) n ∙ between_is t.at

pub whole_there : (m : List ℕ) (o n : ℕ) → n ≡ value_size m o → o + 4 + n ≤ length m → take (o + 4 + n - o) (drop o m) ≡ option_at m o
whole_there m o n e h = ap (λ (k : ℕ). take k (drop o m)) (let f : o + 4 + n - o ≡ 4 + value_size m o = omega (arith, e) in f) ∙ sym (whole_at m o (omega (arith, e, h)))

pub none_there : (m : List ℕ) (o n : ℕ) → n ≡ value_size m o → length m < o + 4 + n → [] ≡ option_at m o
none_there m o n e h = sym (none_at m o (omega (arith, e, h)))

pub past_there : (m : List ℕ) (o : ℕ) → length m < o + 4 → [] ≡ option_at m o
past_there m o h = sym (none_at m o (omega (arith, h)))

-- ---- in two parts

-- four octets, and the others
four_first : (p : List ℕ) → 4 ≤ length p → p ≡ get_or p 0 0 ∷ get_or p 1 0 ∷ get_or p 2 0 ∷ get_or p 3 0 ∷ take (length p - 4) (drop 4 p)
four_first [] h = absurd (omega (arith, h))
four_first (a ∷ []) h = absurd (omega (arith, h))
four_first (a ∷ b ∷ []) h = absurd (omega (arith, h))
four_first (a ∷ b ∷ c ∷ []) h = absurd (omega (arith, h))
four_first (a ∷ b ∷ c ∷ d ∷ r) h = ap (λ (s : List ℕ). a ∷ b ∷ c ∷ d ∷ s) (sym (take_all (length (a ∷ b ∷ c ∷ d ∷ r) - 4) r (omega arith)))

pub plain_parts : (p : List ℕ) → 4 ≤ length p → is_subnet p ≡ false
    → own_octets p ≡ get_or p 0 0 ∷ get_or p 1 0 ∷ get_or p 2 0 ∷ get_or p 3 0 ∷ take (length p - 4) (drop 4 p)
plain_parts p l h = own_plain p l h ∙ four_first p l

pub subnet_parts : (p : List ℕ) → 4 ≤ length p → is_subnet p ≡ true
    → own_octets p ≡ 0 ∷ 8 ∷ 0 ∷ subnet_size p ∷ take (4 + subnet_size p - 4) (drop 4 p)
subnet_parts p l h = own_subnet p l h ∙ ap (λ (k : ℕ). 0 ∷ 8 ∷ 0 ∷ subnet_size p ∷ take k (drop 4 p)) (let e : subnet_size p ≡ 4 + subnet_size p - 4 = omega arith in e)

-- ---- compared

pub both_short : (a b : List ℕ) → length a < 4 → length b < 4 → Equal ≡ slice_cmp nat_cmp (own_octets a) (own_octets b)
both_short a b l m = rw (own_short a l, own_short b m) refl

some_octets : (p : List ℕ) → 4 ≤ length p → (x : ℕ) × (s : List ℕ) × (own_octets p ≡ x ∷ s)
some_octets p l = ⊎_elim (λ (t : is_subnet p ≡ true). (0, 8 ∷ 0 ∷ subnet_size p ∷ take (subnet_size p) (drop 4 p), own_subnet p l t))
    (λ (f : is_subnet p ≡ false). (get_or p 0 0, get_or p 1 0 ∷ get_or p 2 0 ∷ get_or p 3 0 ∷ take (length p - 4) (drop 4 p), plain_parts p l f)) (cases_Bool (is_subnet p))

pub first_short : (a b : List ℕ) → length a < 4 → 4 ≤ length b → Less ≡ slice_cmp nat_cmp (own_octets a) (own_octets b)
first_short a b l m = let s = some_octets b m in rw (own_short a l, s.2) refl

pub second_short : (a b : List ℕ) → 4 ≤ length a → length b < 4 → Greater ≡ slice_cmp nat_cmp (own_octets a) (own_octets b)
second_short a b l m = let s = some_octets a l in rw (own_short b m, s.2) refl

-- heads of one length, and what follows them
by_parts : (a b h s k t : List ℕ) → own_octets a ≡ h ++ s → own_octets b ≡ k ++ t → length h ≡ length k
    → slice_cmp nat_cmp (own_octets a) (own_octets b) ≡ ordering_then (slice_cmp nat_cmp h k) (slice_cmp nat_cmp s t)
by_parts a b h s k t x y e = (λ i. slice_cmp nat_cmp (x i) (y i)) ∙ front_then h k s t e

pub by_heads : (a b h s k t : List ℕ) {o : Ordering} → own_octets a ≡ h ++ s → own_octets b ≡ k ++ t → length h ≡ length k → o ≡ slice_cmp nat_cmp h k → o ≢ Equal
    → o ≡ slice_cmp nat_cmp (own_octets a) (own_octets b)
by_heads a b h s k t {o} x y e is ne =
    then_kept o (slice_cmp nat_cmp s t) ne ∙ ap (λ (r : Ordering). ordering_then r (slice_cmp nat_cmp s t)) is ∙ sym (by_parts a b h s k t x y e)

-- the code first, whatever follows
code_first : (p : List ℕ) → 4 ≤ length p → (s : List ℕ) × (own_octets p ≡ get_or p 0 0 ∷ get_or p 1 0 ∷ s)
code_first p l = ⊎_elim
    (λ (t : is_subnet p ≡ true).
    let h = subnet_there p t in
    let s = 0 ∷ subnet_size p ∷ take (subnet_size p) (drop 4 p) in
    (s, own_subnet p l t ∙ (λ i. sym h.high i ∷ sym h.low i ∷ s)))
    (λ (f : is_subnet p ≡ false). (get_or p 2 0 ∷ get_or p 3 0 ∷ take (length p - 4) (drop 4 p), plain_parts p l f)) (cases_Bool (is_subnet p))

pub by_codes : (a b : List ℕ) {m n : ℕ} {o : Ordering} → 4 ≤ length a → 4 ≤ length b → bytes_high_first 2 m ≡ get_or a 0 0 ∷ get_or a 1 0 ∷ []
    → bytes_high_first 2 n ≡ get_or b 0 0 ∷ get_or b 1 0 ∷ [] → m < 256 ^ 2 → n < 256 ^ 2 → m ≢ n → o ≡ nat_cmp m n
    → o ≡ slice_cmp nat_cmp (own_octets a) (own_octets b)
by_codes a b {m} {n} {o} l k x y small few ne is =
    let s = code_first a l in
    let t = code_first b k in
    by_heads a b (bytes_high_first 2 m) s.0 (bytes_high_first 2 n) t.0 (s.1 ∙ ap (λ (h : List ℕ). h ++ s.0) (sym x))
    (t.1 ∙ ap (λ (h : List ℕ). h ++ t.0) (sym y)) (length-bytes 2 m ∙ sym (length-bytes 2 n)) (is ∙ sym (number_cmp 2 m n small few))
    (λ e. ne (nat_cmp-IsAntisymmetric m n (sym is ∙ e)))

pub by_bodies : (a b h s k t : List ℕ) {o : Ordering} → own_octets a ≡ h ++ s → own_octets b ≡ k ++ t → length h ≡ length k → Equal ≡ slice_cmp nat_cmp h k
    → o ≡ slice_cmp nat_cmp s t → o ≡ slice_cmp nat_cmp (own_octets a) (own_octets b)
by_bodies a b h s k t x y e tie is = is ∙ ap (λ (r : Ordering). ordering_then r (slice_cmp nat_cmp s t)) tie ∙ sym (by_parts a b h s k t x y e)
