use Rattle.std.proofs.Common.{◌-◌}
use Rattle.dns_labels.proofs.name_offsets.NameOffsets.note_labels.Given as goal

abbrev pub decreases-labels : goal.decreases-labels
decreases-labels l = l.written - l.at
