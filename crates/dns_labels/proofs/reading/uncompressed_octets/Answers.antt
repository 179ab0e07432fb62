use Rattle.std.proofs.Common.{arith, refl, ◌++◌, ◌+◌, take, drop, get_or}
use Rattle.dns_labels.proofs.{ReadingSteps.one_more, ReadingRuns.uncompressed_length, ReadingRuns.uncompressed_name}
use Rattle.dns_labels.proofs.reading.uncompressed_octets.Goals as goal

pub returns-then-count-eq0-clause-some : goal.returns-then-count-eq0-clause-some
returns-then-count-eq0-clause-some c = uncompressed_name c.labels.invariant.1 c.requires c.if-count-eq0.true c.if-at-message.false

pub labels-preserved : goal.labels-preserved
labels-preserved c = (
  c.labels.invariant.0 ++ take (get_or c.args.message.now c.labels.at 0 + 1) (drop c.labels.at c.args.message.now),
  one_more c.labels.invariant.1 (omega arith) (omega arith) (omega arith) (omega (arith, uncompressed_length c.labels.invariant.1)) refl,
)
