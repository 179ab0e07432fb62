use Rattle.std.proofs.Common.{arith}
use Rattle.dns_registry.proofs.StringCounts.{one_more, all_counted}
use Rattle.dns_registry.proofs.rule.count_strings.Goals as goal

pub strings-preserved : goal.strings-preserved
strings-preserved c = (
  omega (arith, c.strings.invariant.0),
  λ v e. one_more c.args.octets.now c.strings.offset c.strings.count v c.strings-test.true (c.strings.invariant.1 v e),
)

pub returns : goal.returns
returns c = λ v e. all_counted c.args.octets.now c.strings.offset c.strings.count v c.strings-test.false (c.strings.invariant.1 v e)
