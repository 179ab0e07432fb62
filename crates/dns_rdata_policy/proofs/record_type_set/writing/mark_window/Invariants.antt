use Rattle.std.proofs.Common.{◌/◌, take, get_or}
use Rattle.dns_rdata_policy.proofs.Windows.{HasMarks}
use Rattle.dns_rdata_policy.proofs.record_type_set.writing.mark_window.Given as goal

abbrev pub invariant-loop-at : goal.invariant-loop-at
invariant-loop-at l = HasMarks l.octets (take l.at l.run) (get_or l.run 0 0 / 256)
