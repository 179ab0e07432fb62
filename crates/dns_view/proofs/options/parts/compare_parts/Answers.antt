use Rattle.std.proofs.Common.{arith}
use Rattle.dns_view.proofs.OptionOwn.{both_short, first_short, second_short, by_codes}
use Rattle.dns_view.proofs.options.parts.compare_parts.Goals as goal

pub returns-in-true-true : goal.returns-in-true-true
returns-in-true-true c = both_short c.args.a.now c.args.b.now (omega (arith, c.in-true-true.is-0)) (omega (arith, c.in-true-true.is-1))

pub returns-in-true-false : goal.returns-in-true-false
returns-in-true-false c = first_short c.args.a.now c.args.b.now (omega (arith, c.in-true-false.is-0)) (omega (arith, c.in-true-false.is-1))

pub returns-in-false-true : goal.returns-in-false-true
returns-in-false-true c = second_short c.args.a.now c.args.b.now (omega (arith, c.in-false-true.is-0)) (omega (arith, c.in-false-true.is-1))

pub returns-then-code-other : goal.returns-then-code-other
returns-then-code-other c = by_codes c.args.a.now c.args.b.now (omega (arith, c.in-false-false.is-0)) (omega (arith, c.in-false-false.is-1)) c.code_of-code.ensures c.code_of-other.ensures
    (omega arith) (omega arith) c.if-code-other.true c.cmp.ensures
