use Rattle.dns_rdata_service.proofs.{Splits.is_err, ItemLists.so_far_refused}
use Rattle.dns_rdata_service.proofs.svcb.parameter_token.items_of.Goals as goal

pub returns-in_err-item_of-clause-refused : goal.returns-in_err-item_of-clause-refused
returns-in_err-item_of-clause-refused g c =
    let segment = rw c.in-Some.is at c.in_ok-segment.ensures.segment in
    rw (is_err _ _ c.from_residual-in_err-item_of.ensures.1) (λ h all l.
    so_far_refused g.T.FromItem.is_text c.args.text.now c.segments.rest.now c.as_str.result.now c.in-Some.more.now c.segments.values c.segments.invariant.0
    (rw c.as_str.ensures.value segment) (c.in_err-item_of.ensures.refused h) all l)
