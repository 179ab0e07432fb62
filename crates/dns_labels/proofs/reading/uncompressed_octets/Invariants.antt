use Rattle.std.proofs.Common.{length, ◌-◌, ℕ, List, []}
use Rattle.dns_labels.proofs.ReadingSteps.{SoFar}
use Rattle.dns_labels.proofs.reading.uncompressed_octets.Given as goal

abbrev pub invariant-labels : goal.invariant-labels
invariant-labels l = (octets : List ℕ) × SoFar l.message l.start l.at [] octets

abbrev pub decreases-labels : goal.decreases-labels
decreases-labels l = length l.message - l.at
