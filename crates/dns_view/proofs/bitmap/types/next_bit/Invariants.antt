use Rattle.std.proofs.Common.{◌≡◌, ◌-◌, ◌*◌, length}
use Rattle.dns_view.specs.TypeList.{types_left}
use Rattle.dns_view.proofs.bitmap.types.next_bit.Given as goal

abbrev pub invariant-bits : goal.invariant-bits
invariant-bits l = types_left (l.number, l.window) l.from ≡ types_left (l.number, l.window) l.bit

abbrev pub decreases-bits : goal.decreases-bits
decreases-bits l = 8 * length l.window - l.bit
