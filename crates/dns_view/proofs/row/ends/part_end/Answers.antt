use Rattle.dns_view.proofs.PartEnds.{name_stops, name_past}
use Rattle.dns_view.proofs.row.ends.part_end.Goals as goal

pub returns-then-end-next-clause-none : goal.returns-then-end-next-clause-none
returns-then-end-next-clause-none c = name_past c.args.end c.in-Name.is c.in_ok-next-in-Name.ensures.some c.if-end-next.true

pub returns-else-end-next-clause-some : goal.returns-else-end-next-clause-some
returns-else-end-next-clause-some c = name_stops c.args.end c.in-Name.is c.in_ok-next-in-Name.ensures.some
