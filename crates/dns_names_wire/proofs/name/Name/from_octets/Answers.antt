use Rattle.std.proofs.Common.{subst}
use Rattle.dns_fields.specs.Octets.{AreOctets}
use Rattle.dns_names_wire.proofs.name.Name.from_octets.Goals as goal

pub invariant_of-result : goal.invariant_of-result
invariant_of-result c = (c.requires, subst AreOctets c.as_slice.ensures.value c.are_octets.ensures)
