use Rattle.std.proofs.Common.{length, ◌≤◌}
use Rattle.dns_names_wire.proofs.{NameSteps.Going, StepCounts.Chased}
use Rattle.dns_names_wire.proofs.name_ends.follow_name.Given as goal

abbrev pub invariant-runs : goal.invariant-runs
invariant-runs l = Going l.message l.start l.end l.region l.offset l.next l.octets × (l.end ≤ length l.message)
    × Chased l.message l.start l.region l.offset l.next l.octets l.steps

abbrev pub decreases-runs : goal.decreases-runs
decreases-runs l = l.offset
