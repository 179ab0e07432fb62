-- Octets after their number in two octets.
use Rattle.std.proofs.Common.{◌≡◌, ℕ, suc, ◌+◌, ◌-◌, ◌*◌, ◌/◌, ◌%◌, ◌≤◌, ◌<◌, List, [], ◌∷◌, length, take, drop, get_or, refl, sym, ap, ◌∙◌, arith}
use Rattle.std.proofs.lemmas.List.{length-take-le, length-drop, get_or-drop, get_or-take}
use Rattle.dns_fields.specs.Octets.{At}
use Rattle.dns_registry.specs.FieldRules.{long_octets, IsLong}

-- the number at an offset
abbrev pub count_at : List ℕ → ℕ → ℕ
count_at octets p = get_or octets p 0 * 256 + get_or octets (p + 1) 0

front_octet : (octets : List ℕ) (p q i : ℕ) (x : List ℕ) → At octets p x q → i < length x → get_or octets (p + i) 0 ≡ get_or x i 0
front_octet octets p q i x a l =
    sym (get_or-drop p octets i 0) ∙ sym (get_or-take (length x) (drop p octets) i 0 l) ∙ ap (λ (s : List ℕ). get_or s i 0) a.same

-- what is there has this length
pub long_count : (octets : List ℕ) (p q : ℕ) (l : IsLong octets p q) → (count_at octets p ≡ length l.body) × (q ≡ p + 2 + length l.body)
long_count octets p q l =
    let x = long_octets l.body in
    let none : p + 0 ≡ p = omega arith in
    let high : get_or octets p 0 ≡ length l.body / 256 = sym (ap (λ (i : ℕ). get_or octets i 0) none) ∙ front_octet octets p q 0 x l.at (omega arith) in
    let low : get_or octets (p + 1) 0 ≡ length l.body % 256 = front_octet octets p q 1 x l.at (omega arith) in
    (omega (arith, high, low), omega (arith, l.at.ends))

pub long_one : (octets : List ℕ) (p q r : ℕ) → IsLong octets p q → IsLong octets p r → q ≡ r
long_one octets p q r a b =
    let x = long_count octets p q a in
    let y = long_count octets p r b in
    omega (arith, x.0, x.1, y.0, y.1)

pub long_inside : (octets : List ℕ) (p q : ℕ) → IsLong octets p q → (p + 2 + count_at octets p ≤ length octets) × (q ≤ length octets)
long_inside octets p q l = let x = long_count octets p q l in (omega (arith, x.0, x.1, l.at.within), l.at.within)

split_two : (s : List ℕ) → 2 ≤ length s → s ≡ get_or s 0 0 ∷ get_or s 1 0 ∷ drop 2 s
split_two [] h = absurd (omega (arith, h))
split_two (a ∷ []) h = absurd (omega (arith, h))
split_two (a ∷ b ∷ s) h = refl

take_two : (n : ℕ) (a b : ℕ) (s : List ℕ) → take (2 + n) (a ∷ b ∷ s) ≡ a ∷ b ∷ take n s
take_two n a b s = let k : 2 + n ≡ suc (suc n) = omega arith in ap (λ (i : ℕ). take i (a ∷ b ∷ s)) k

pub long_there : (octets : List ℕ) (p : ℕ) → ((i : ℕ) → get_or octets i 0 < 256) → p ≤ length octets → 2 ≤ length octets - p
    → count_at octets p ≤ length octets - p - 2 → IsLong octets p (p + 2 + count_at octets p)
long_there octets p small inside two fits =
    let n = count_at octets p in
    let rest = drop p octets in
    let left : length rest ≡ length octets - p = length-drop p octets in
    let a : get_or rest 0 0 ≡ get_or octets p 0 = get_or-drop p octets 0 0 ∙ ap (λ (i : ℕ). get_or octets i 0) (omega arith) in
    let b : get_or rest 1 0 ≡ get_or octets (p + 1) 0 = get_or-drop p octets 1 0 in
    let body = take n (drop 2 rest) in
    let size : length body ≡ n = length-take-le n (drop 2 rest) (omega (arith, length-drop 2 rest, left, fits)) in
    let last = small (p + 1) in
    let first = small p in
    let high : n / 256 ≡ get_or octets p 0 = omega (arith, last) in
    let low : n % 256 ≡ get_or octets (p + 1) 0 = omega (arith, last) in
    let long : long_octets body ≡ get_or rest 0 0 ∷ get_or rest 1 0 ∷ body = rw (size, high, low, a, b) refl in
    let total : length (long_octets body) ≡ 2 + n = omega (arith, size) in
    record {
      body = body;
      short = omega (arith, size, first, last);
      at = record {
        ends = omega (arith, total);
        within = omega (arith, fits, two, inside);
        same = ap (λ (k : ℕ). take k rest) total ∙ ap (take (2 + n)) (split_two rest (omega (arith, left, two)))
            ∙ take_two n (get_or rest 0 0) (get_or rest 1 0) (drop 2 rest) ∙ sym long;
      };
    }
