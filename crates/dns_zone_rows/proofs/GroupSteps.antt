-- Groups of hexadecimal digits, one character after the other.
use Rattle.std.proofs.Common.{◌≡◌, ℕ, zero, suc, ◌+◌, ◌*◌, ◌^◌, ◌<◌, ◌≤◌, ◌==◌, nat_le, Bool, true, false, get_or, List, [], ◌∷◌, ◌++◌, length, drop, Option, Some, None, refl, sym, ◌∙◌, ap, subst, arith, append_assoc, add-one}
use Rattle.std.proofs.lemmas.{List.drop_more, Bool.eq-eqb, Bool.le-leb, Bool.ne_eqb}
use Rattle.std.proofs.Math.Nat.{pow-suc}
use Rattle.std.specs.Int.{bytes_high_first}
use Rattle.dns_zone_rows.specs.{Decoding.Appended, Groups.groups_from, Groups.hex_digit, declared.groups.Groups.Groups}

-- octets of the text so far were appended
pub record GroupsSoFar (form : Groups) (text before now : List ℕ) (value count at : ℕ) : Type 0 where
  pub seen : List ℕ
  pub same : now ≡ before ++ seen
  pub left : groups_from form [] 0 0 text ≡ groups_from form seen value count (drop at text)
  pub small : value < 16 ^ count
  pub few : count ≤ 2 * form.width

-- the value of digits, of at most four
pub digits_fit : (count value : ℕ) → count ≤ 4 → value < 16 ^ count → value < 65536
digits_fit zero value few small = omega (arith, small)
digits_fit (suc zero) value few small = omega (arith, small)
digits_fit (suc (suc zero)) value few small = omega (arith, small)
digits_fit (suc (suc (suc zero))) value few small = omega (arith, small)
digits_fit (suc (suc (suc (suc zero)))) value few small = omega (arith, small)
digits_fit (suc (suc (suc (suc (suc count))))) value few small = absurd (omega arith)

-- a group of at most two octets has room for one more digit
pub digit_fits : (count width value digit : ℕ) → width ≤ 2 → count + 1 ≤ 2 * width → value < 16 ^ count → digit < 16 → 16 * value + digit < 65536
digit_fits count width value digit narrow room small low =
    let more : 16 * value + digit < 16 ^ suc count =
    let power : 16 ^ suc count ≡ 16 ^ count * 16 = pow-suc 16 count in omega (arith, small, low, power) in
    digits_fit (suc count) (16 * value + digit) (omega (arith, narrow, room)) more

-- the character ends a group
pub next_group : (form : Groups) (text before now after : List ℕ) (value count at : ℕ) → GroupsSoFar form text before now value count at → at < length text
    → get_or text at 0 ≡ form.separator → form.least ≤ count → after ≡ now ++ bytes_high_first form.width value
    → GroupsSoFar form text before after 0 0 (at + 1)
next_group form text before now after value count at so within ends enough put =
    let bytes : List ℕ = bytes_high_first form.width value in
    let c : ℕ = get_or text at 0 in
    let is : (c == form.separator) ≡ true = eq-eqb c form.separator ends in
    let some : nat_le form.least count ≡ true = le-leb form.least count enough in
    let step : groups_from form so.seen value count (c ∷ drop (at + 1) text) ≡ groups_from form (so.seen ++ bytes) 0 0 (drop (at + 1) text) =
    rw (is, some) refl in
    record {
      seen = so.seen ++ bytes;
      same = put ∙ ap (λ (s : List ℕ). s ++ bytes) so.same ∙ append_assoc before so.seen bytes;
      left = so.left ∙ ap (groups_from form so.seen value count) (drop_more text at 0 within) ∙ step;
      small = omega arith;
      few = omega arith;
    }

-- the character is one more digit of a group
pub next_digit : (form : Groups) (text before now : List ℕ) (value count at digit : ℕ) → GroupsSoFar form text before now value count at → at < length text
    → (get_or text at 0 ≡ form.separator → ⊥) → hex_digit (get_or text at 0) ≡ Some digit → digit < 16 → count + 1 ≤ 2 * form.width
    → GroupsSoFar form text before now (16 * value + digit) (count + 1) (at + 1)
next_digit form text before now value count at digit so within other found low room =
    let c : ℕ = get_or text at 0 in
    let not_end : (c == form.separator) ≡ false = ne_eqb c form.separator other in
    let fits : nat_le (count + 1) (2 * form.width) ≡ true = le-leb (count + 1) (2 * form.width) room in
    let step : groups_from form so.seen value count (c ∷ drop (at + 1) text) ≡ groups_from form so.seen (16 * value + digit) (count + 1) (drop (at + 1) text) =
    rw (not_end, found, fits) refl in
    record {
      seen = so.seen;
      same = so.same;
      left = so.left ∙ ap (groups_from form so.seen value count) (drop_more text at 0 within) ∙ step;
      small = let power : 16 ^ (count + 1) ≡ 16 ^ count * 16 = rw add-one (pow-suc 16 count) in let small = so.small in omega (arith, small, low, power);
      few = room;
    }
