use Rattle.std.proofs.Common.{arith}
use Rattle.dns_rdata_service.proofs.EachEmits.{emits_next, extends_on}
use Rattle.dns_rdata_service.proofs.svcb.ip_hint.emit_each.Goals as goal

pub loop-item-preserved : goal.loop-item-preserved
loop-item-preserved g c = record {
  emitted = emits_next g.T.BinEncodable.emits c.loop-item.item-index c.args.items.now c.item-item.result
      c.item-item.result c.args.encoder.now c.loop-item.encoder c.emit.new.encoder c.item-item.is (omega arith) c.loop-item.invariant.emitted
      c.in_ok-emit.ensures.emits;
  extends = extends_on c.loop-item.invariant.extends c.in_ok-emit.ensures.extends;
}
