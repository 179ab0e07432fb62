use Rattle.std.proofs.Common.{◌≡◌, ◌≤◌, length}
use Rattle.dns_view.specs.TypeList.{listed}
use Rattle.dns_view.proofs.bitmap.types.next_type.Given as goal

abbrev pub invariant-windows : goal.invariant-windows
invariant-windows l = (listed (l.number, l.window) l.from l.after ≡ listed (l.current, l.octets) l.at l.rest) × (length l.octets ≤ 32)

abbrev pub decreases-windows : goal.decreases-windows
decreases-windows l = length l.rest
