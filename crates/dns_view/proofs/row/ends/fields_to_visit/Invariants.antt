use Rattle.std.proofs.Common.{◌≤◌, length, drop}
use Rattle.dns_view.specs.RowOrder.{ArePlain}
use Rattle.dns_view.proofs.row.ends.fields_to_visit.Given as goal

abbrev pub invariant-loop-count : goal.invariant-loop-count
invariant-loop-count l = (l.count ≤ length l.row) × ArePlain (drop l.count l.row)

abbrev pub decreases-loop-count : goal.decreases-loop-count
decreases-loop-count l = l.count
