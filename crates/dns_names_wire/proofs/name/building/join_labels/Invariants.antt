use Rattle.std.proofs.Common.{◌≡◌, map, take}
use Rattle.dns_labels.specs.Labels.{labels_of, AreNameOctets}
use Rattle.dns_names_wire.proofs.name.building.join_labels.Given as goal

abbrev pub invariant-loop-label : goal.invariant-loop-label
invariant-loop-label l = AreNameOctets l.octets.items × (labels_of l.octets.items ≡ map (λ label. label.now) (take l.label-index l.labels))
