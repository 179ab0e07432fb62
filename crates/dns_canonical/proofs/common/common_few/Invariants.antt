use Rattle.std.proofs.Common.{◌≡◌, ◌≤◌, ◌-◌, take}
use Rattle.dns_canonical.proofs.common.common_few.Given as goal

abbrev pub invariant-loop-n : goal.invariant-loop-n
invariant-loop-n l = record { within : l.n ≤ l.shorter; same : take l.n l.a ≡ take l.n l.b }

abbrev pub decreases-loop-n : goal.decreases-loop-n
decreases-loop-n l = l.shorter - l.n
