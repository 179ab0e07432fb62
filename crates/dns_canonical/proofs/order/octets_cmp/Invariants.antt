use Rattle.std.proofs.Common.{◌+◌, ◌-◌, ◌≡◌, ◌≤◌, take}
use Rattle.dns_canonical.proofs.order.octets_cmp.Given as goal

abbrev pub invariant-tokens : goal.invariant-tokens
invariant-tokens l = (l.at ≤ l.shorter) × (take l.at l.a ≡ take l.at l.b)

abbrev pub decreases-tokens : goal.decreases-tokens
decreases-tokens l = l.shorter + 1 - l.at
