use Rattle.std.proofs.Common.{◌+◌, ◌-◌, ◌≡◌, ◌≤◌, take}
use Rattle.dns_view.proofs.name.order.same_front.Given as goal

abbrev pub invariant-eights : goal.invariant-eights
invariant-eights l = (take l.at l.a ≡ take l.at l.b) × (l.at ≤ l.most)

abbrev pub decreases-eights : goal.decreases-eights
decreases-eights l = l.most + 1 - l.at
