use Rattle.std.proofs.Common.{length, ◌-◌, ◌≤◌, take, []}
use Rattle.dns_labels.proofs.ReadingSteps.{SoFar}
use Rattle.dns_labels.proofs.matching.match_run.Given as goal

abbrev pub invariant-labels : goal.invariant-labels
invariant-labels l = SoFar l.message l.offset l.at [] (take l.taken l.octets) × (l.taken ≤ length l.octets)

abbrev pub decreases-labels : goal.decreases-labels
decreases-labels l = length l.message - l.at
