use Rattle.dns_view.proofs.FieldAt.{AtField}
use Rattle.dns_view.proofs.row.field.field_of.Given as goal

abbrev pub invariant-loop-at : goal.invariant-loop-at
invariant-loop-at l = AtField l.message l.offset l.row l.end l.here l.number l.at
