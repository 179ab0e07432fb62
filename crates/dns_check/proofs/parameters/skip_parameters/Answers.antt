use Rattle.std.proofs.Common.{arith, rules}
use Rattle.dns_check.proofs.ParameterSteps.{on_more, on_longer, parameters_skip, parameters_refused, parameters_unordered, parameters_passed}
use Rattle.dns_check.proofs.parameters.skip_parameters.Goals as goal

pub returns-in-Err : goal.returns-in-Err
returns-in-Err c =
    parameters_refused c.parameters.invariant.on (omega (arith, c.index-in-parameters.ensures.offset, c.parameters-test.true)) c.in-Err.ensures.refused

pub returns-then-not-is_above : goal.returns-then-not-is_above
returns-then-not-is_above c =
    parameters_unordered c.parameters.invariant.on (omega (arith, c.index-in-parameters.ensures.offset, c.parameters-test.true)) c.in-Ok.ensures.taken
    (λ a. let t = c.if-not-is_above.ensures.1 a in absurd (cc t))

pub returns-then-len-taken : goal.returns-then-len-taken
returns-then-len-taken c =
    parameters_passed c.parameters.invariant.on (omega (arith, c.index-in-parameters.ensures.offset, c.parameters-test.true)) c.in-Ok.ensures.taken
    (c.if-not-is_above.ensures.0 (search rules)) (omega (arith, c.index-in-parameters-2.ensures.offset)) (omega (arith, c.if-len-taken.true)) c.requires.before

pub parameters-smaller : goal.parameters-smaller
parameters-smaller c = omega (arith, on_longer c.in-Ok.ensures.taken, c.index-in-parameters.ensures.offset, c.parameters-test.true)

pub parameters-preserved : goal.parameters-preserved
parameters-preserved c =
    let on = on_more c.parameters.invariant.on c.in-Ok.ensures.taken (c.if-not-is_above.ensures.0 (search rules)) in
    record { on = on; within = omega (arith, c.index-in-parameters-2.ensures.offset, c.if-len-taken.false) }

pub returns : goal.returns
returns c = parameters_skip c.parameters.invariant.on c.parameters.invariant.within (omega
    (arith, c.index-in-parameters.ensures.offset, c.parameters-test.false))
