use Rattle.dns_names_wire.proofs.Building.{refused_parsed}
use Rattle.dns_names_wire.proofs.name.Name.parse.Goals as goal

pub returns-clause-refused : goal.returns-clause-refused
returns-clause-refused c = refused_parsed _ c.complete.result c.in_ok-from_str.ensures.found c.complete.ensures.refused
