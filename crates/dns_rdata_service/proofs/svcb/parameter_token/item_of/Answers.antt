use Rattle.dns_rdata_service.proofs.{Splits.is_err, ItemLists.item_refused}
use Rattle.dns_rdata_service.proofs.svcb.parameter_token.item_of.Goals as goal

pub returns-in_err-item-clause-refused : goal.returns-in_err-item-clause-refused
returns-in_err-item-clause-refused g c =
    rw (is_err _ _ c.from_residual.ensures.1) (λ h x o. c.in_err-item.ensures.refused h o.item o.is_item)

pub returns-clause-refused : goal.returns-clause-refused
returns-clause-refused g c =
    item_refused g.T.FromItem.is_text c.args.text.now c.as_str.result.now c.from_item.result (rw c.as_str.ensures.value c.in_ok-item.ensures.ok)
    c.from_item.ensures.refused
