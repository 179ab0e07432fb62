use Rattle.std.proofs.Common.{arith}
use Rattle.dns_rdata_service.proofs.EachEmits.{texts_more}
use Rattle.dns_rdata_service.proofs.svcb.ip_hint.IpHintDisplay.fmt.Goals as goal

pub loop-item-preserved : goal.loop-item-preserved
loop-item-preserved g c = texts_more g.W.Write.write_str_gives g.T.Display.output c.loop-item.item-index c.as_slice-item-items.result.now c.item-item.result
    c.args.f.now c.loop-item.f c.write.new.self c.in_ok-write.field-0 c.item-item.is (omega arith) c.loop-item.invariant c.in_ok-write.ensures.writes
