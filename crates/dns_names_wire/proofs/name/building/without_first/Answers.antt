use Rattle.std.proofs.{lemmas.List.take_rest, Common.arith}
use Rattle.dns_labels.proofs.Octets.{first_label}
use Rattle.dns_names_wire.proofs.Building.{rest_labels}
use Rattle.dns_names_wire.proofs.name.building.without_first.Goals as goal

pub returns-clause-labels : goal.returns-clause-labels
returns-clause-labels c = rw (take_rest c.args.octets.now _) (rest_labels c.args.octets.now c.requires (omega arith))

pub returns-clause-octets : goal.returns-clause-octets
returns-clause-octets c = rw (take_rest c.args.octets.now _) (first_label c.args.octets.now c.requires (omega arith)).others
