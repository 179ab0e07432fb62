use Rattle.dns_labels.proofs.WritingSteps.{Matched}
use Rattle.dns_labels.proofs.matching.stands_at.Given as goal

abbrev pub invariant-runs : goal.invariant-runs
invariant-runs l = Matched l.message l.offset l.region l.begin l.octets l.matched

abbrev pub decreases-runs : goal.decreases-runs
decreases-runs l = l.begin
