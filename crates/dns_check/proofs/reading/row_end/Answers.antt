use Rattle.std.proofs.Common.{arith, rules}
use Rattle.dns_check.proofs.{CheckedFirst.there_at, RowTests.row_tested}
use Rattle.dns_check.proofs.reading.row_end.Goals as goal

pub skip_row-requires-clause-row : goal.skip_row-requires-clause-row
skip_row-requires-clause-row c = row_tested c.args.row.now c.requires.row

pub returns-in-Ok-clause-there : goal.returns-in-Ok-clause-there
returns-in-Ok-clause-there c = there_at c.index.ensures.octets (omega arith) (search rules) (rw c.unverified.ensures at c.in-Ok.ensures.skips) (search rules)
