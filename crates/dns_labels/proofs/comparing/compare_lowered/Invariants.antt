use Rattle.std.proofs.Common.{◌≡◌}
use Rattle.dns_labels.proofs.ComparingSteps.{left}
use Rattle.dns_labels.proofs.comparing.compare_lowered.Given as goal

abbrev pub invariant-loop-at : goal.invariant-loop-at
invariant-loop-at l = left l.a l.b l.at ≡ left l.a l.b 0
