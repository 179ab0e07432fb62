use Rattle.std.proofs.Common.{◌+◌, ◌-◌, ◌≡◌, ◌≤◌, take}
use Rattle.dns_types.proofs.comparing.same_many.Given as goal

abbrev pub invariant-each_block : goal.invariant-each_block
invariant-each_block l = (l.at ≤ l.last + 32) × (take l.at l.a ≡ take l.at l.b)

abbrev pub decreases-each_block : goal.decreases-each_block
decreases-each_block l = l.last + 32 - l.at
