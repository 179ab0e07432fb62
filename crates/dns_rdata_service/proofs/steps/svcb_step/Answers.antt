use Rattle.std.proofs.Common.{ap, ◌∙◌, ◌++◌}
use Rattle.dns_fields.specs.{Fields.field_octets, declared.Kind.TheVariants.Number}
use Rattle.dns_rdata_service.proofs.ParameterSteps.{target_step, parameter_gives_step}
use Rattle.dns_rdata_service.proofs.steps.svcb_step.Goals as goal

pub returns-in-0 : goal.returns-in-0
unfolding field_octets
returns-in-0 c =
    let r = ap (λ h. h ++ c.name.result) (c.two.ensures.value ∙ ap (λ h. h ++ field_octets (Number 2) c.args.x.now.svc_priority) c.requires.empty) ∙ ap (λ t. field_octets (Number 2) c.args.x.now.svc_priority ++ t) c.name.ensures in
    rw (c.in-0.is, c.to.ensures) (target_step c.args.x.now _ _ _ _ r)

pub returns-in-1 : goal.returns-in-1
returns-in-1 c = rw c.in-1.is (parameter_gives_step c.args.x.now _ _ _ _ (rw c.as_slice.ensures at c.parameter_step.ensures))
