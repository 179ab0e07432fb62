use Rattle.std.proofs.Common.{◌≡◌, ◌≤◌, ◌-◌, take}
use Rattle.dns_canonical.proofs.common.common_in_blocks.Given as goal

abbrev pub invariant-loop-n : goal.invariant-loop-n
invariant-loop-n l = record { within : l.n ≤ l.shorter; same : take l.n l.a ≡ take l.n l.b }

abbrev pub decreases-loop-n : goal.decreases-loop-n
decreases-loop-n l = l.shorter - l.n

abbrev pub invariant-loop-n-2 : goal.invariant-loop-n-2
invariant-loop-n-2 l = record { within : l.n ≤ l.shorter; same : take l.n l.a ≡ take l.n l.b }

abbrev pub decreases-loop-n-2 : goal.decreases-loop-n-2
decreases-loop-n-2 l = l.shorter - l.n
