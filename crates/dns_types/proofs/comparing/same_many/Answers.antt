use Rattle.std.proofs.Common.{◌-◌, ◌+◌, length, arith}
use Rattle.dns_types.proofs.Overlaps.{by_last, further}
use Rattle.dns_types.proofs.comparing.same_many.Goals as goal

pub returns : goal.returns
returns c = by_last _ c.each_block.at (length c.args.a.now - 32) c.args.a.now c.args.b.now (omega arith) c.each_block.invariant.1
    c.same_block-2.ensures

pub each_block-preserved : goal.each_block-preserved
each_block-preserved c =
    (omega arith, further c.each_block.at (c.each_block.at + 32) c.args.a.now c.args.b.now (omega arith) c.each_block.invariant.1 (c.same_block.ensures.0 c.if-not-same_block.false))
