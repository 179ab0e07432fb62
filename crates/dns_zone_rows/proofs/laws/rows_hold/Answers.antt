use Rattle.dns_zone_rows.proofs.Once.{row_once}
use Rattle.dns_zone_rows.proofs.laws.rows_hold.Goals as goal

pub returns : goal.returns
returns c = row_once
