use Rattle.dns_rdata_policy.proofs.Marks.{LeftBits}
use Rattle.dns_rdata_policy.proofs.record_type_set.reading.add_octet.Given as goal

abbrev pub invariant-loop-left : goal.invariant-loop-left
invariant-loop-left l = LeftBits l.g l.octet l.left l.initial.numbers.items l.numbers.items

abbrev pub decreases-loop-left : goal.decreases-loop-left
decreases-loop-left l = l.left
