use Rattle.std.proofs.Common.{◌≡◌, ◌<◌, ◌+◌, ◌-◌, length, get_or}
use Rattle.dns_names_wire.proofs.{NameSteps.Skipped, StepCounts.Counted}
use Rattle.dns_names_wire.proofs.name_ends.pass_run.Given as goal

abbrev pub invariant-labels : goal.invariant-labels
invariant-labels l = Skipped l.message l.offset l.at l.before (l.before + (l.at - l.offset)) × (l.first ≡ get_or l.message l.at 0) × (l.at < l.most)
    × Counted l.message l.offset l.at l.before l.labels

abbrev pub decreases-labels : goal.decreases-labels
decreases-labels l = length l.message - l.at
