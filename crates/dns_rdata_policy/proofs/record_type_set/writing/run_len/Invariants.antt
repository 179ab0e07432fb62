use Rattle.std.proofs.Common.{◌<◌, ◌≤◌, ◌-◌, ◌/◌, length, take, get_or}
use Rattle.dns_rdata_policy.specs.RecordTypeSet.{AreOfWindow}
use Rattle.dns_rdata_policy.proofs.record_type_set.writing.run_len.Given as goal

abbrev pub invariant-loop-end : goal.invariant-loop-end
invariant-loop-end l = record { some : 0 < l.end; within : l.end ≤ length l.numbers; run : AreOfWindow (get_or l.numbers 0 0 / 256) (take l.end l.numbers) }

abbrev pub decreases-loop-end : goal.decreases-loop-end
decreases-loop-end l = length l.numbers - l.end
