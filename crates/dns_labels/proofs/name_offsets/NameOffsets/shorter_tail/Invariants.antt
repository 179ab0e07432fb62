use Rattle.std.proofs.Common.{length, ◌-◌}
use Rattle.dns_labels.specs.Emission.{CutAt}
use Rattle.dns_labels.proofs.name_offsets.NameOffsets.shorter_tail.Given as goal

abbrev pub invariant-labels : goal.invariant-labels
invariant-labels l = CutAt l.octets l.cut

abbrev pub decreases-labels : goal.decreases-labels
decreases-labels l = length l.octets - l.cut
