use Rattle.std.proofs.Common.{◌+◌, arith}
use Rattle.dns_labels.proofs.{ReadingSteps.at_zero, ReadingSteps.at_pointer}
use Rattle.dns_labels.proofs.matching.match_run.Goals as goal

pub returns-then-count-eq0 : goal.returns-then-count-eq0
returns-then-count-eq0 c = (c.labels.at + 1, at_zero c.labels.invariant.0 (omega arith) (omega arith), c.labels.invariant.1)

pub returns-then-count-ge192 : goal.returns-then-count-ge192
returns-then-count-ge192 c = (
  c.labels.at + 2,
  at_pointer c.labels.invariant.0 (λ i. omega (arith, c.type_inv.message i)) (omega arith) (omega arith),
  c.labels.invariant.1,
)
