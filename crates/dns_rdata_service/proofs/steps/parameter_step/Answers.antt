use Rattle.std.proofs.Common.{arith}
use Rattle.dns_rdata_service.proofs.ParameterSteps.{item_step, after_items}
use Rattle.dns_rdata_service.proofs.steps.parameter_step.Goals as goal

pub returns-in-Some : goal.returns-in-Some
returns-in-Some c =
    item_step c.args.parameters.now c.args.part c.args.item c.index-parameters-part.result _ _ (omega arith) (omega (arith, c.if-part-parameters.false))
    c.index-parameters-part.is (rw (← c.index-parameters-part.is) at c.in-Some.ensures.item)

pub returns-in-None : goal.returns-in-None
returns-in-None c =
    after_items c.args.parameters.now c.args.part c.args.item c.index-parameters-part.result _ _ (omega arith) (omega (arith, c.if-part-parameters.false))
    c.index-parameters-part.is (rw (← c.index-parameters-part.is) at c.in-None.ensures.item.0) c.head_step-in-None.ensures
