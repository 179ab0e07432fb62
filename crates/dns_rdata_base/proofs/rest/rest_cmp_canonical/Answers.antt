use Rattle.dns_rdata_base.proofs.QuickOrders.{rest_orders}
use Rattle.dns_rdata_base.proofs.rest.rest_cmp_canonical.Goals as goal

pub returns : goal.returns
returns c = rest_orders c.args.a.now c.args.b.now c.rest_order.result (rw (c.as_slice.ensures.value, c.as_slice-2.ensures.value) at c.rest_order.ensures)
