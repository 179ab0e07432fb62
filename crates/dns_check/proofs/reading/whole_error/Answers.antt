use Rattle.dns_check.proofs.{RowErrors.error_known, RowTests.row_tested}
use Rattle.dns_check.proofs.reading.whole_error.Goals as goal

pub check_data-outcome-requires-clause-row : goal.check_data-outcome-requires-clause-row
check_data-outcome-requires-clause-row c = row_tested c.args.row.now c.requires.row

pub returns-in-Err-clause-memory : goal.returns-in-Err-clause-memory
returns-in-Err-clause-memory c = λ m. absurd ((error_known _ _ _ _ _ c.in-Err.ensures.why).0 m)
