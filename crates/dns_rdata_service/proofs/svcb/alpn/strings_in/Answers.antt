use Rattle.std.proofs.Common.{arith}
use Rattle.dns_rdata_service.proofs.svcb.alpn.strings_in.Goals as goal

pub loop-offset-preserved : goal.loop-offset-preserved
loop-offset-preserved c = record {
  counted = omega (arith, c.loop-offset.invariant.counted);
  bounded = omega (arith, c.loop-offset.invariant.counted, c.loop-offset-test.true);
  small = omega (arith, c.type_inv.octets c.loop-offset.offset, c.loop-offset-test.true);
}
