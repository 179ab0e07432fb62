use Rattle.dns_check.proofs.RowTests.{row_tested}
use Rattle.dns_view.proofs.row.view.RowView.name.Goals as goal

pub name_field_of-requires-clause-row : goal.name_field_of-requires-clause-row
name_field_of-requires-clause-row c = row_tested c.args.self.now.row.now c.args.self.now.checked
