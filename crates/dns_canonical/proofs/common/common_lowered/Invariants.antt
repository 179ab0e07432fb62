use Rattle.std.proofs.Common.{◌≡◌, ◌≤◌, ◌-◌, take, map}
use Rattle.std.specs.Char.{to_ascii_lowercase}
use Rattle.dns_canonical.proofs.common.common_lowered.Given as goal

abbrev pub invariant-loop-n : goal.invariant-loop-n
invariant-loop-n l = record { within : l.n ≤ l.shorter; same : map to_ascii_lowercase (take l.n l.a) ≡ map to_ascii_lowercase (take l.n l.b) }

abbrev pub decreases-loop-n : goal.decreases-loop-n
decreases-loop-n l = l.shorter - l.n
