-- Digits of base32, one after the other.
use Rattle.std.proofs.Common.{◌≡◌, ℕ, zero, suc, ◌+◌, ◌-◌, ◌*◌, ◌/◌, ◌%◌, ◌^◌, ◌<◌, ◌≤◌, nat_le, Bool, true, false, get_or, List, [], ◌∷◌, ◌++◌, length, drop, Option, Some, None, refl, sym, ◌∙◌, ap, subst, arith, append_assoc}
use Rattle.std.proofs.lemmas.{List.drop_more, Bool.le-leb, Bool.lt-leb, Nat.pow-add, Nat.pow_pos, Nat.mod_below, Nat.pow_below}
use Rattle.std.proofs.Math.Nat.{div-lt_iff_lt-mul, mod-eq_of_lt}
use Rattle.dns_zone_rows.specs.{Base32.base32_from, Base32.base32_digit}

-- octets of the text so far were appended
pub record DigitsSoFar (text before now : List ℕ) (bits held at : ℕ) : Type 0 where
  pub seen : List ℕ
  pub same : now ≡ before ++ seen
  pub left : base32_from [] 0 0 text ≡ base32_from seen bits held (drop at text)
  pub small : bits < 2 ^ held
  pub few : held ≤ 7

-- five more bits fit
sum_low : (held bits digit : ℕ) → bits < 2 ^ held → digit < 32 → 32 * bits + digit < 2 ^ (held + 5)
sum_low held bits digit small low = let power : 2 ^ (held + 5) ≡ 2 ^ held * 32 = pow-add 2 held 5 in omega (arith, small, low, power)

-- the octet at the front of the bits
pub octet_fits : (held bits digit : ℕ) → 3 ≤ held → bits < 2 ^ held → digit < 32 → (32 * bits + digit) / 2 ^ (held - 3) < 256
octet_fits held bits digit enough small low =
    let sum = sum_low held bits digit small low in
    let parts : held + 5 ≡ (held - 3) + 8 = omega (arith, enough) in
    let power : 2 ^ (held + 5) ≡ 2 ^ (held - 3) * 256 = ap (λ (n : ℕ). 2 ^ n) parts ∙ pow-add 2 (held - 3) 8 in
    let below : 32 * bits + digit < 256 * 2 ^ (held - 3) = omega (arith, sum, power) in
    (div-lt_iff_lt-mul (pow_pos (held - 3))).1 below

-- one more digit, and an octet of the bits
pub digit_with_octet : (text before now after : List ℕ) (bits held at digit : ℕ) → DigitsSoFar text before now bits held at → at < length text
    → base32_digit (get_or text at 0) ≡ Some digit → digit < 32 → 3 ≤ held → after ≡ now ++ (32 * bits + digit) / 2 ^ (held - 3) ∷ []
    → DigitsSoFar text before after ((32 * bits + digit) % 2 ^ (held - 3)) (held - 3) (at + 1)
digit_with_octet text before now after bits held at digit so within found low enough put =
    let octet : ℕ = (32 * bits + digit) / 2 ^ (held - 3) in
    let c : ℕ = get_or text at 0 in
    let some : nat_le 3 held ≡ true = le-leb 3 held enough in
    let step : base32_from so.seen bits held (c ∷ drop (at + 1) text)
    ≡ base32_from (so.seen ++ octet ∷ []) ((32 * bits + digit) % 2 ^ (held - 3)) (held - 3) (drop (at + 1) text) =
    rw (base32_from, found, some) refl in
    record {
      seen = so.seen ++ octet ∷ [];
      same = put ∙ ap (λ (s : List ℕ). s ++ octet ∷ []) so.same ∙ append_assoc before so.seen (octet ∷ []);
      left = so.left ∙ ap (base32_from so.seen bits held) (drop_more text at 0 within) ∙ step;
      small = mod_below (32 * bits + digit) (2 ^ (held - 3)) (pow_pos (held - 3));
      few = let few = so.few in omega (arith, few);
    }

-- one more digit
pub digit_alone : (text before now : List ℕ) (bits held at digit : ℕ) → DigitsSoFar text before now bits held at → at < length text
    → base32_digit (get_or text at 0) ≡ Some digit → digit < 32 → held < 3 → DigitsSoFar text before now (32 * bits + digit) (held + 5) (at + 1)
digit_alone text before now bits held at digit so within found low few =
    let c : ℕ = get_or text at 0 in
    let none : nat_le 3 held ≡ false = lt-leb 3 held few in
    let step : base32_from so.seen bits held (c ∷ drop (at + 1) text) ≡ base32_from so.seen (32 * bits + digit) (held + 5) (drop (at + 1) text) =
    rw (base32_from, found, none) refl in
    record {
      seen = so.seen;
      same = so.same;
      left = so.left ∙ ap (base32_from so.seen bits held) (drop_more text at 0 within) ∙ step;
      small = sum_low held bits digit so.small low;
      few = omega (arith, few);
    }

-- the code's power of two
pub unit_same : (held : ℕ) → held ≤ 7 → (1 * 2 ^ held) % 4294967296 ≡ 2 ^ held
unit_same held few = let below : 2 ^ held < 2 ^ 32 = pow_below held 32 (omega (arith, few)) in
    let one : 1 * 2 ^ held ≡ 2 ^ held = omega arith in
    rw one (mod-eq_of_lt below)
