use Rattle.dns_check.proofs.RowTests.{row_tested}
use Rattle.dns_view.proofs.row.view.RowView.put_uncompressed.Goals as goal

pub returns-in-None : goal.returns-in-None
returns-in-None c = λ h. absurd (c.in-None.ensures h)

pub put_row-requires-clause-row : goal.put_row-requires-clause-row
put_row-requires-clause-row c = row_tested c.args.self.now.row.now c.args.self.now.checked
