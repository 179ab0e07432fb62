use Rattle.std.proofs.Common.{arith, refl}
use Rattle.dns_fields.specs.Fields.{field_octets}
use Rattle.dns_rdata_service.proofs.ParameterSteps.{head_given}
use Rattle.dns_rdata_service.proofs.steps.head_step.Goals as goal

pub returns : goal.returns
unfolding field_octets
returns c =
    head_given c.args.parameters.now c.args.part c.index-parameters-part.result _ _ (omega (arith, c.if-part-parameters.false))
    c.index-parameters-part.is (rw (c.put_front.ensures, c.two-2.ensures.value, c.two.ensures.value, c.requires.empty, c.from.ensures, c.in_ok-size.ensures.1) refl)
