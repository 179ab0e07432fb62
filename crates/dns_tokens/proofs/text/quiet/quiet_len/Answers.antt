use Rattle.std.proofs.Common.{arith, length, ◌-◌}
use Rattle.dns_tokens.proofs.QuietSteps.{quiet_on}
use Rattle.dns_tokens.proofs.text.quiet.quiet_len.Goals as goal

pub returns-then-len-lt16-clause-quiet : goal.returns-then-len-lt16-clause-quiet
returns-then-len-lt16-clause-quiet c = quiet_on c.args.most c.args.b c.args.c c.args.text.now c.parts.at c.quiet_of_sixteen-len.result c.parts.invariant.quiet
    (omega arith) c.quiet_of_sixteen-len.ensures.quiet

pub parts-preserved : goal.parts-preserved
parts-preserved c = record {
  within = omega arith;
  quiet = quiet_on c.args.most c.args.b c.args.c c.args.text.now c.parts.at c.quiet_of_sixteen-len.result c.parts.invariant.quiet
      (omega arith) c.quiet_of_sixteen-len.ensures.quiet;
}

pub returns-clause-quiet : goal.returns-clause-quiet
returns-clause-quiet c = quiet_on c.args.most c.args.b c.args.c c.args.text.now (length c.args.text.now - 16) c.quiet_of_sixteen.result
    (λ k lt. c.parts.invariant.quiet k (omega (arith, c.parts-test.false))) (omega (arith, c.quiet_of_sixteen.ensures.within)) c.quiet_of_sixteen.ensures.quiet
