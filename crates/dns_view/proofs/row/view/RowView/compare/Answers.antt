use Rattle.dns_check.proofs.RowTests.{row_tested}
use Rattle.dns_view.proofs.row.view.RowView.compare.Goals as goal

pub compare_rows-requires-clause-row : goal.compare_rows-requires-clause-row
compare_rows-requires-clause-row c = row_tested c.args.self.now.row.now c.args.self.now.checked
