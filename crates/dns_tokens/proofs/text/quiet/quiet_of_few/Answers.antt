use Rattle.std.proofs.Common.{arith, length, ◌-◌}
use Rattle.dns_tokens.proofs.QuietSteps.{quiet_on}
use Rattle.dns_tokens.proofs.text.quiet.quiet_of_few.Goals as goal

pub returns-clause-quiet : goal.returns-clause-quiet
returns-clause-quiet c = quiet_on c.args.most c.args.b c.args.c c.args.text.now (length c.args.text.now - 8) c.quiet_of_eight.result
    (λ k lt. c.quiet_of_eight-len.ensures.quiet k (omega (arith, c.if-len-lt8.false))) (omega (arith, c.quiet_of_eight.ensures.within)) c.quiet_of_eight.ensures.quiet
