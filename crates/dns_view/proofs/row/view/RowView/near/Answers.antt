use Rattle.dns_check.proofs.RowTests.{row_tested}
use Rattle.dns_view.proofs.row.view.RowView.near.Goals as goal

pub is_near-requires-clause-row : goal.is_near-requires-clause-row
is_near-requires-clause-row c = row_tested c.args.row.now c.requires.row
