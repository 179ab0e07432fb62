use Rattle.dns_check.proofs.RowTests.{row_tested}
use Rattle.dns_view.proofs.row.view.RowView.field.Goals as goal

pub field_of-requires-clause-row : goal.field_of-requires-clause-row
field_of-requires-clause-row c = row_tested c.args.self.now.row.now c.args.self.now.checked
