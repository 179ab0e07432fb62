use Rattle.std.proofs.Common.{sym}
use Rattle.dns_view.proofs.OptionOwn.{subnet_parts, plain_parts}
use Rattle.dns_view.proofs.options.parts.parts_of.Goals as goal

pub returns-then-is_subnet-clause-octets : goal.returns-then-is_subnet-clause-octets
returns-then-is_subnet-clause-octets c = subnet_parts c.args.part.now c.requires (sym c.if-is_subnet.ensures)

pub returns-clause-octets : goal.returns-clause-octets
returns-clause-octets c = plain_parts c.args.part.now c.requires (sym c.if-is_subnet.ensures)
