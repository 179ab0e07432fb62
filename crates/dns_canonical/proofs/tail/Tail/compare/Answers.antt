use Rattle.std.proofs.Common.{sym, ◌∙◌}
use Rattle.dns_canonical.proofs.Comparing.{cmp_shared}
use Rattle.dns_canonical.proofs.tail.Tail.compare.Goals as goal

pub returns : goal.returns
returns c = c.compare_next.ensures ∙ sym (cmp_shared c.skip_common.ensures.shares)
