use Rattle.std.proofs.Common.{length, ◌-◌}
use Rattle.dns_check.proofs.{RowLoop.AtPart, StepRows.CountedSo}
use Rattle.dns_check.proofs.fields.are_near.Given as goal

abbrev pub invariant-near : goal.invariant-near
invariant-near l = AtPart l.row l.count l.len (record { message = l.message; index = l.start }) l.near
    × CountedSo l.row l.count l.start l.len (record { message = l.message; index = l.start }) l.near l.fn.left l.unfollowed

abbrev pub decreases-near : goal.decreases-near
decreases-near l = length l.row - l.count
