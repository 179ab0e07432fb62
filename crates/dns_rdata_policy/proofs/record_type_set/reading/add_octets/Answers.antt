use Rattle.std.proofs.Common.{arith}
use Rattle.dns_rdata_policy.proofs.Marks.{none_of_window, octet_added}
use Rattle.dns_rdata_policy.proofs.record_type_set.reading.add_octets.Goals as goal

pub loop-i-init : goal.loop-i-init
loop-i-init c = none_of_window c.args.window c.args.octets.now _

pub loop-i-preserved : goal.loop-i-preserved
loop-i-preserved c = octet_added c.args.window c.loop-i.i c.args.octets.now _ _ _ c.loop-i-test.true (omega arith) c.loop-i.invariant c.in_ok-add_octet.ensures
