use Rattle.std.proofs.Common.{◌≤◌}
use Rattle.dns_view.proofs.RowOrder.{Compared}
use Rattle.dns_view.proofs.row.order.compare_fields.Given as goal

abbrev pub invariant-fields : goal.invariant-fields
invariant-fields l = Compared l.a l.x l.end l.b l.y l.stop l.row l.index l.from l.at l.to
    × (l.x ≤ l.from) × (l.y ≤ l.to) × (l.from ≤ l.at) × (l.at ≤ l.end) × (l.to ≤ l.stop)
