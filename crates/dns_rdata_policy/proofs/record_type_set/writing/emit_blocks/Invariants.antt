use Rattle.std.proofs.Common.{length}
use Rattle.dns_rdata_policy.proofs.WindowSteps.{LeftWindows}
use Rattle.dns_rdata_policy.proofs.record_type_set.writing.emit_blocks.Given as goal

abbrev pub invariant-loop-rest : goal.invariant-loop-rest
invariant-loop-rest l = LeftWindows l.numbers l.rest l.fn.encoder l.encoder

abbrev pub decreases-loop-rest : goal.decreases-loop-rest
decreases-loop-rest l = length l.rest
