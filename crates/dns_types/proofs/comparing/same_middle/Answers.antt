use Rattle.std.proofs.Common.{◌-◌, length, arith}
use Rattle.dns_types.proofs.Overlaps.{by_ends}
use Rattle.dns_types.proofs.comparing.same_middle.Goals as goal

pub returns-then-len-le16 : goal.returns-then-len-le16
returns-then-len-le16 c = by_ends _ _ 8 (length c.args.a.now - 8) c.args.a.now c.args.b.now (omega arith)
    c.same_token.ensures c.same_token-then-len-le16.ensures

pub returns : goal.returns
returns c = by_ends _ _ 16 (length c.args.a.now - 16) c.args.a.now c.args.b.now (omega arith)
    c.same_pair.ensures c.same_pair-2.ensures
