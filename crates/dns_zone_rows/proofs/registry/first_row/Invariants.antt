use Rattle.std.proofs.Common.{◌≡◌, drop}
use Rattle.dns_zone_rows.specs.RegistrySteps.{first_row}
use Rattle.dns_zone_rows.proofs.registry.first_row.Given as goal

-- none of the zone rows so far has the number
abbrev pub invariant-loop-row : goal.invariant-loop-row
invariant-loop-row l = first_row l.rows l.number ≡ first_row (drop l.row-index l.rows) l.number
