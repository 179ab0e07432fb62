use Rattle.std.proofs.Common.{◌-◌, ◌≡◌, ◌≤◌, length, take}
use Rattle.dns_types.proofs.strings.same_strings.Given as goal

abbrev pub invariant-strings : goal.invariant-strings
invariant-strings l = (l.at ≤ length l.a) × (take l.at l.a ≡ take l.at l.b)

abbrev pub decreases-strings : goal.decreases-strings
decreases-strings l = length l.a - l.at
