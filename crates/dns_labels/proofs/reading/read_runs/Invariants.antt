use Rattle.std.proofs.Common.{length, ◌≤◌}
use Rattle.dns_labels.proofs.ReadingRuns.{Pending}
use Rattle.dns_labels.proofs.reading.read_runs.Given as goal

abbrev pub invariant-runs : goal.invariant-runs
invariant-runs l = Pending l.message l.start l.end l.region l.offset l.next l.octets × (l.end ≤ length l.message)

abbrev pub decreases-runs : goal.decreases-runs
decreases-runs l = l.offset
