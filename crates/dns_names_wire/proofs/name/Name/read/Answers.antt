use Rattle.dns_names_wire.proofs.Names.{took_name}
use Rattle.dns_names_wire.proofs.name.Name.read.Goals as goal

pub returns-clause-reads : goal.returns-clause-reads
returns-clause-reads c = rw c.from_octets.ensures (took_name c.in_ok-octets.ensures.taken)
