use Rattle.std.proofs.Common.{◌-◌, length, arith}
use Rattle.dns_types.proofs.Overlaps.{by_ends}
use Rattle.dns_types.proofs.comparing.same_few.Goals as goal

pub returns : goal.returns
returns c = by_ends _ _ 4 (length c.args.a.now - 4) c.args.a.now c.args.b.now (omega arith)
    c.same_half.ensures c.same_half-2.ensures
