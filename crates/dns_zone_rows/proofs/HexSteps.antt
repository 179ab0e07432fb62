-- Hexadecimal digits of one token, one after the other.
use Rattle.std.proofs.Common.{◌≡◌, ℕ, ◌+◌, ◌*◌, ◌<◌, Bool, true, false, get_or, List, [], ◌∷◌, ◌++◌, length, drop, Option, Some, None, refl, sym, ◌∙◌, ap, arith, append_assoc}
use Rattle.std.proofs.lemmas.List.{drop_more}
use Rattle.dns_zone_rows.specs.{Groups.hex_digit, HexDigits.hex_from}

-- octets of the text so far were appended
pub record HexSoFar (text before now : List ℕ) (high : ℕ) (odd : Bool) (at : ℕ) : Type 0 where
  pub seen : List ℕ
  pub same : now ≡ before ++ seen
  pub left : hex_from [] 0 false text ≡ hex_from seen high odd (drop at text)
  pub small : high < 16

-- the second digit of an octet
pub second_digit : (text before now after : List ℕ) (high at digit : ℕ) (odd : Bool) → HexSoFar text before now high odd at → at < length text
    → hex_digit (get_or text at 0) ≡ Some digit → odd ≡ true → after ≡ now ++ (16 * high + digit) ∷ []
    → HexSoFar text before after high false (at + 1)
second_digit text before now after high at digit odd so within found is put =
    let octet : ℕ = 16 * high + digit in
    let c : ℕ = get_or text at 0 in
    let step : hex_from so.seen high odd (c ∷ drop (at + 1) text) ≡ hex_from (so.seen ++ octet ∷ []) high false (drop (at + 1) text) =
    rw (hex_from, found, is) refl in
    record {
      seen = so.seen ++ octet ∷ [];
      same = put ∙ ap (λ (s : List ℕ). s ++ octet ∷ []) so.same ∙ append_assoc before so.seen (octet ∷ []);
      left = so.left ∙ ap (hex_from so.seen high odd) (drop_more text at 0 within) ∙ step;
      small = so.small;
    }

-- the first digit of an octet
pub first_digit : (text before now : List ℕ) (high at digit : ℕ) (odd : Bool) → HexSoFar text before now high odd at → at < length text
    → hex_digit (get_or text at 0) ≡ Some digit → digit < 16 → odd ≡ false → HexSoFar text before now digit true (at + 1)
first_digit text before now high at digit odd so within found low is =
    let c : ℕ = get_or text at 0 in
    let step : hex_from so.seen high odd (c ∷ drop (at + 1) text) ≡ hex_from so.seen digit true (drop (at + 1) text) =
    rw (hex_from, found, is) refl in
    record {
      seen = so.seen;
      same = so.same;
      left = so.left ∙ ap (hex_from so.seen high odd) (drop_more text at 0 within) ∙ step;
      small = low;
    }
