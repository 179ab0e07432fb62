use Rattle.std.proofs.Common.{length, ◌+◌, ◌-◌, ◌≡◌, min}
use Rattle.dns_labels.proofs.LabelSteps.{LabelSoFar}
use Rattle.dns_labels.proofs.text.read_octets.Given as goal

abbrev pub invariant-octets : goal.invariant-octets
invariant-octets l = LabelSoFar l.text l.at l.fn.octets l.octets × (length l.octets + l.left ≡ length l.fn.octets + min 63 (254 - length l.fn.octets))

abbrev pub decreases-octets : goal.decreases-octets
decreases-octets l = length l.text - l.at
