use Rattle.dns_rdata.proofs.ViewOrder.{ordered_as}
use Rattle.dns_rdata.proofs.view_order.RDataRefOrd.cmp.Goals as goal

pub returns-clause-values : goal.returns-clause-values
returns-clause-values c = λ m p n t v l q k u w a f b g e. ordered_as c.order.ensures a f b g e
