use Rattle.std.proofs.Common.{length, ◌-◌, ◌<◌}
use Rattle.dns_labels.specs.TextFaults.{ReadsUpTo}
use Rattle.dns_labels.proofs.NameSteps.{NameSoFar}
use Rattle.dns_labels.proofs.text.read_each_label.Given as goal

abbrev pub invariant-labels : goal.invariant-labels
invariant-labels l = NameSoFar l.text l.at l.octets × (l.at < length l.text) × ReadsUpTo l.text l.at l.octets

abbrev pub decreases-labels : goal.decreases-labels
decreases-labels l = length l.text - l.at
