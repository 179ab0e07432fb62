use Rattle.std.proofs.Common.{arith, rules}
use Rattle.dns_check.proofs.HeldLists.{key_there}
use Rattle.dns_check.proofs.ParameterSteps.{counted_none, counted_more, counted_all}
use Rattle.dns_check.proofs.parameters.count_parameters.Goals as goal

pub parameters-init : goal.parameters-init
parameters-init c = record { on = counted_none c.requires.within; within = omega (arith, c.if-end-at.false) }

pub parameters-preserved : goal.parameters-preserved
parameters-preserved c =
    let t = c.in-Some.ensures.there in
    let key = key_there t.is c.from_be_bytes-key.ensures in
    record {
      on = counted_more c.parameters.invariant.on t c.in-Some.ensures.some.0 key c.in-Ok.ensures.found (c.if-not-is_above.ensures.0 (search rules));
      within = omega (arith, c.if-end-next.false);
    }

pub returns : goal.returns
returns c = counted_all c.parameters.invariant.on c.parameters.invariant.within (omega (arith, c.parameters-test.false))
