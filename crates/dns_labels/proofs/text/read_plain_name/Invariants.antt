use Rattle.std.proofs.Common.{◌≡◌, ◌+◌, ◌-◌, ◌<◌, length}
use Rattle.dns_labels.proofs.PlainNames.{PlainSoFar}
use Rattle.dns_labels.proofs.text.read_plain_name.Given as goal

abbrev pub invariant-labels : goal.invariant-labels
invariant-labels l = PlainSoFar l.text l.at l.octets × (l.at < length l.text) × (length l.octets ≡ length l.text + 1)

abbrev pub decreases-labels : goal.decreases-labels
decreases-labels l = length l.text - l.at
