use Rattle.dns_check.proofs.RowTests.{row_tested}
use Rattle.dns_check.proofs.reading.row_result.Goals as goal

pub skip_row-own-requires-clause-row : goal.skip_row-own-requires-clause-row
skip_row-own-requires-clause-row c = row_tested c.args.row.now c.requires.row
