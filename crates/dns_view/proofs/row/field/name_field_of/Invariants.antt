use Rattle.dns_view.proofs.NameFields.{AtName}
use Rattle.dns_view.proofs.row.field.name_field_of.Given as goal

abbrev pub invariant-fields : goal.invariant-fields
invariant-fields l = AtName l.message l.offset l.row l.end l.here l.number l.left l.part-index
