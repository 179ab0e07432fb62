use Rattle.std.proofs.Common.{◌/◌, ◌-◌, ◌≤◌, length, take, get_or}
use Rattle.dns_rdata_policy.proofs.Windows.{HasFront}
use Rattle.dns_rdata_policy.proofs.record_type_set.writing.first_token.Given as goal

abbrev pub invariant-loop-count : goal.invariant-loop-count
invariant-loop-count l = HasFront l.token (take l.count l.run) (get_or l.run 0 0 / 256) × (l.count ≤ length l.run)

abbrev pub decreases-loop-count : goal.decreases-loop-count
decreases-loop-count l = length l.run - l.count
