use Rattle.std.proofs.{Common.◌-◌, Common.length, Common.arith, Common.sym, lemmas.List.length-take-le}
use Rattle.dns_types.proofs.Overlaps.{by_ends}
use Rattle.dns_types.proofs.comparing.same_octets.Goals as goal

pub slice_bounds-same_block-end : goal.slice_bounds-same_block-end
slice_bounds-same_block-end c = sym (length-take-le 32 c.args.a.now (omega arith))

pub slice_bounds-same_block-end-2 : goal.slice_bounds-same_block-end-2
slice_bounds-same_block-end-2 c = sym (length-take-le 32 c.args.b.now (omega arith))

pub same_block-requires : goal.same_block-requires
same_block-requires c = (length-take-le 32 c.args.a.now (omega arith), length-take-le 32 c.args.b.now (omega arith))

pub returns : goal.returns
returns c = by_ends _ _ 32 (length c.args.a.now - 32) c.args.a.now c.args.b.now (omega arith)
    c.same_block.ensures c.same_block-2.ensures
