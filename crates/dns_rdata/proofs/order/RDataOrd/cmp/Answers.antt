use Rattle.dns_rdata.proofs.OrderReads.{orders_read}
use Rattle.dns_rdata.proofs.order.RDataOrd.cmp.Goals as goal

pub returns-clause-canonical : goal.returns-clause-canonical
returns-clause-canonical c = rw c.cmp_all.ensures (orders_read _ _)
