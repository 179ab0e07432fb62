use Rattle.std.proofs.Common.{arith}
use Rattle.dns_names_wire.proofs.NameFacts.{name_length, name_octets}
use Rattle.dns_names_wire.proofs.name.Name.len.Goals as goal

pub returns-clause-value : goal.returns-clause-value
returns-clause-value c = rw (← c.self.view_is) (omega (arith, c.len.ensures, name_length c.self.inside.octets c.self.inside.is_fqdn c.self.invariant.0))

pub returns-clause-octets : goal.returns-clause-octets
returns-clause-octets c = rw (← c.self.view_is) (name_octets c.self.inside.octets c.self.invariant.0 c.self.invariant.1)
