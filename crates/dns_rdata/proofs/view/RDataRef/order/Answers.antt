use Rattle.std.proofs.Common.{sym, ◌∙◌}
use Rattle.dns_rdata.proofs.ViewOrder.{then_octets}
use Rattle.dns_rdata.proofs.view.RDataRef.order.Goals as goal

pub returns : goal.returns
returns c = then_octets c.args.self.now c.args.other.now c.cmp-types.result c.compare.result c.cmp-types.ensures
    (sym c.is_ne.ensures ∙ c.if-is_ne.false) c.compare.ensures
