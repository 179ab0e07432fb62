use Rattle.std.proofs.{lemmas.List.length-take-le, Common.arith, Common.sym}
use Rattle.dns_types.proofs.Overlaps.{by_ends}
use Rattle.dns_types.proofs.comparing.same_arrays.Goals as goal

pub slice_bounds-same_block-end : goal.slice_bounds-same_block-end
slice_bounds-same_block-end g c = sym (length-take-le 32 c.args.a.now (omega arith))

pub slice_bounds-same_block-end-then-this-eq64 : goal.slice_bounds-same_block-end-then-this-eq64
slice_bounds-same_block-end-then-this-eq64 g c = sym (length-take-le 32 c.args.b.now (omega arith))

pub same_block-requires : goal.same_block-requires
same_block-requires g c = (length-take-le 32 c.args.a.now (omega arith), length-take-le 32 c.args.b.now (omega arith))

pub returns-then-this-eq64 : goal.returns-then-this-eq64
returns-then-this-eq64 g c = by_ends _ _ 32 32 c.args.a.now c.args.b.now (omega arith) c.same_block.ensures c.same_block-then-this-eq64.ensures
