use Rattle.dns_rdata.specs.QuickOrders.{TellsOrder}
use Rattle.dns_rdata.proofs.QuickOrders.{in_values}
use Rattle.dns_rdata.proofs.order.of_values.Goals as goal

pub returns : goal.returns
unfolding TellsOrder
returns g c = in_values _ _ _ c.cmp_canonical_fields.result c.requires.first c.requires.second c.requires.equal c.cmp_canonical_fields.ensures
