use Rattle.std.proofs.Common.{◌∙◌, ap, sym}
use Rattle.std.specs.{Ordering.ordering_then, declared.cmp.Ordering.Ordering}
use Rattle.dns_canonical.proofs.Fronts.{also}
use Rattle.dns_rdata_service.proofs.SvcbFronts.{ne_no, parameters_behind, rest_cmp}
use Rattle.dns_rdata_service.proofs.order.svcb_front.Goals as goal

pub returns-clause-order : goal.returns-clause-order
returns-clause-order c =
    parameters_behind c.args.a.now c.args.b.now c.name_behind-order.result c.name_behind-order.ensures.labels
    (also _ _ _ c.name_behind-order.ensures.order c.two_behind-priority.ensures)
    ∙ ap (λ (o : Ordering). ordering_then o (rest_cmp c.args.a.now.svc_params c.args.b.now.svc_params 0)) (ne_no _ (sym c.is_ne.ensures ∙ c.if-is_ne.false))
    ∙ (rw (c.as_slice.ensures, c.as_slice-2.ensures) at c.parameters_front.ensures.order)
