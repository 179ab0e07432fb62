use Rattle.std.proofs.Common.{length, ◌-◌}
use Rattle.dns_check.proofs.{RowLoop.AtPart, StepRows.CountedSo}
use Rattle.dns_check.proofs.fields.skip_row.Given as goal

abbrev pub invariant-fields : goal.invariant-fields
invariant-fields l = AtPart l.row l.count l.len l.fn.walk l.walk
    × CountedSo l.row l.count l.start l.len l.fn.walk l.walk l.fn.left l.left

abbrev pub decreases-fields : goal.decreases-fields
decreases-fields l = length l.row - l.count
