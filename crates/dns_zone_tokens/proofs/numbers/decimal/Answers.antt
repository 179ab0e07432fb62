use Rattle.std.proofs.Common.{◌≡◌, arith, get_or, below_more, subst}
use Rattle.std.specs.{Int.IsInRange, Str.Parse.digits_value}
use Rattle.std.proofs.{lemmas.Bool.Decides.nat_tests, lemmas.List.take_all, lemmas.Str.Parse.digit_at}
use Rattle.dns_zone_tokens.proofs.DecimalSteps.{all_digits, one_more, at_least}
use Rattle.dns_zone_tokens.proofs.numbers.decimal.Goals as goal

pub returns-then-not-is_ascii_digit-clause-none : goal.returns-then-not-is_ascii_digit-clause-none
returns-then-not-is_ascii_digit-clause-none c = λ digits.
    let digit = digit_at c.args.digits.now c.loop-octet.octet-index digits.1 (omega arith) in
    absurd (grind (arith, nat_tests, digit))

pub returns-then-sum-ge4294967296-clause-none : goal.returns-then-sum-ge4294967296-clause-none
returns-then-sum-ge4294967296-clause-none c = λ digits.
    let digit = digit_at c.args.digits.now c.loop-octet.octet-index digits.1 (omega arith) in
    omega (arith, digit, c.loop-octet.invariant.value, at_least c.args.digits.now c.loop-octet.octet-index (omega arith) digit)

pub loop-octet-preserved : goal.loop-octet-preserved
loop-octet-preserved c =
    let digit : IsInRange 48 57 (get_or c.args.digits.now c.loop-octet.octet-index 0) = (grind (arith, nat_tests), grind (arith, nat_tests)) in record {
      digits = below_more _ _ c.loop-octet.invariant.digits digit;
      value = omega (arith, c.loop-octet.invariant.value, one_more c.args.digits.now c.loop-octet.octet-index (omega arith) digit);
    }

pub returns-clause-some : goal.returns-clause-some
returns-clause-some c = (
  (omega arith, all_digits c.args.digits.now (λ i lt. c.loop-octet.invariant.digits i (omega arith))),
  subst (λ (ds : _). c.loop-octet.number ≡ digits_value 10 ds) (take_all c.loop-octet.octet-index c.args.digits.now (omega arith)) c.loop-octet.invariant.value,
)
