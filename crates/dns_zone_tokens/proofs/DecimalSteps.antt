-- Decimal digits, one by one.
use Rattle.std.proofs.Common.{◌≡◌, ℕ, suc, ◌+◌, ◌-◌, ◌*◌, ◌^◌, ◌<◌, ◌≤◌, List, [], ◌∷◌, length, take, get_or, arith}
use Rattle.std.specs.{Int.IsInRange, Str.Parse.AllDigits, Str.Parse.digits_value}
use Rattle.std.proofs.{Math.Pow.pow_mono, lemmas.Int.Digits.digits_value_more, lemmas.Str.digit_value_digit, lemmas.Str.Parse.digits_value-take-le}

pub all_digits : (ds : List ℕ) → ((i : ℕ) → i < length ds → IsInRange 48 57 (get_or ds i 0)) → AllDigits 10 ds
all_digits [] h = tt
all_digits (c ∷ ds) h =
    let e = digit_value_digit c (h 0 (omega arith)) in let r = h 0 (omega arith) in (omega (arith, e, r), all_digits ds (λ i lt. h (suc i) (omega arith)))

-- one digit more
pub one_more : (ds : List ℕ) (i : ℕ) → i < length ds → IsInRange 48 57 (get_or ds i 0)
    → digits_value 10 (take (i + 1) ds) ≡ digits_value 10 (take i ds) * 10 + (get_or ds i 0 - 48)
one_more ds i lt r = let e = digit_value_digit (get_or ds i 0) r in omega (arith, e, digits_value_more 10 ds i lt)

-- the digits are no smaller number than those before the last
pub at_least : (ds : List ℕ) (i : ℕ) → i < length ds → IsInRange 48 57 (get_or ds i 0)
    → digits_value 10 (take i ds) * 10 + (get_or ds i 0 - 48) ≤ digits_value 10 ds
at_least ds i lt r = omega (arith, one_more ds i lt r, digits_value-take-le 10 ds (i + 1) (omega arith))

-- numbers of at most four octets
pub small_power : (octets : ℕ) → octets ≤ 4 → 2 ^ (8 * octets) ≤ 2 ^ 32
small_power octets few = let least : 8 * octets ≤ 32 = omega arith in pow_mono least
