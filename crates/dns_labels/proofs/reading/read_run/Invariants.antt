use Rattle.std.proofs.Common.{length, ◌-◌, ◌≡◌}
use Rattle.dns_labels.proofs.ReadingSteps.{SoFar}
use Rattle.dns_labels.proofs.reading.read_run.Given as goal

abbrev pub invariant-labels : goal.invariant-labels
invariant-labels l = SoFar l.message l.offset l.at l.fn.octets l.octets × (l.len ≡ length l.octets)

abbrev pub decreases-labels : goal.decreases-labels
decreases-labels l = length l.message - l.at
