use Rattle.std.proofs.Common.{length}
use Rattle.dns_labels.specs.Labels.{labels_of}
use Rattle.dns_names_wire.proofs.Zones.{ZoneSoFar}
use Rattle.dns_names_wire.proofs.name.Name.zone_of.Given as goal

abbrev pub invariant-labels : goal.invariant-labels
invariant-labels l = ZoneSoFar l.name.labels (labels_of l.zone) l.rest

abbrev pub decreases-labels : goal.decreases-labels
decreases-labels l = length l.rest
