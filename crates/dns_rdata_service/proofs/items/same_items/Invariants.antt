use Rattle.std.proofs.Common.{◌-◌, ◌≡◌, ◌≤◌, length, drop}
use Rattle.std.specs.Cmp.Lexicographic.{pointwise}
use Rattle.dns_rdata_service.proofs.items.same_items.Given as goal

abbrev pub invariant-items : goal.invariant-items
invariant-items g l =
    (l.at ≤ length l.a) × (length l.a ≡ length l.b) × (pointwise g.T.PartialEq.eq (drop l.at l.a) (drop l.at l.b) ≡ pointwise g.T.PartialEq.eq l.a l.b)

abbrev pub decreases-items : goal.decreases-items
decreases-items g l = length l.a - l.at
