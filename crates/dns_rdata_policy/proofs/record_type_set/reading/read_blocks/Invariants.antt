use Rattle.std.proofs.Common.{length}
use Rattle.dns_rdata_policy.specs.RecordTypeSet.{held}
use Rattle.dns_rdata_policy.proofs.Marks.{LeftBlocks}
use Rattle.dns_rdata_policy.proofs.record_type_set.reading.read_blocks.Given as goal

abbrev pub invariant-loop-rest : goal.invariant-loop-rest
invariant-loop-rest l = LeftBlocks l.octets l.rest (held l.numbers.items)

abbrev pub decreases-loop-rest : goal.decreases-loop-rest
decreases-loop-rest l = length l.rest
