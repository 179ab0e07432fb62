use Rattle.std.proofs.Common.{arith}
use Rattle.dns_types.proofs.Overlaps.{by_ends}
use Rattle.dns_types.proofs.comparing.same_block.Goals as goal

pub returns : goal.returns
returns c = by_ends _ _ 16 16 c.args.a.now c.args.b.now (omega arith) c.same_pair.ensures c.same_pair-2.ensures
