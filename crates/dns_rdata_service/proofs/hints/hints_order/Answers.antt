use Rattle.std.proofs.Common.{arith}
use Rattle.dns_rdata_service.proofs.SvcbFronts.{items_first}
use Rattle.dns_rdata_service.proofs.hints.hints_order.Goals as goal

pub returns-clause-order : goal.returns-clause-order
returns-clause-order g c =
    items_first g.T.Address.octets g.row.N c.args.a.now c.args.b.now _ _ _ _ _ c.requires.0 c.in_ok-hints_size.ensures.width c.in_ok-hints_size-2.ensures.width
    c.then.ensures c.cmp-sizes.ensures c.in_ok-hints_size.ensures.size.1 c.in_ok-hints_size-2.ensures.size.1 c.hints_cmp-order.ensures (omega arith) (omega arith)
