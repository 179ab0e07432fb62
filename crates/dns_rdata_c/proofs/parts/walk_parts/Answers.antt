use Rattle.std.proofs.Common.{arith}
use Rattle.dns_rdata_c.proofs.PartOctets.{parts_more, part_room, step, none_left, when_none}
use Rattle.dns_rdata_c.proofs.parts.walk_parts.Goals.{then-i-index, else-i-index}
use Rattle.dns_rdata_c.proofs.parts.walk_parts.Goals as goal

pub parts-preserved : goal.parts-preserved
parts-preserved c = (
  parts_more c.parts.invariant.0 c.in-Some.ensures,
  omega (arith, (part_room c.in-Some.ensures).1, c.parts.invariant.1),
  λ p t a. step (c.parts.invariant.2 p t a) c.in-Some.ensures,
  λ p t a. elim c.if-i-index.branch [
    | then-i-index v ↦ rw v.found-is (record { from = c.parts.end; left = rw v.if-i-index.true at (c.parts.invariant.2 p t a); here = c.in-Some.ensures })
    | else-i-index v ↦ rw v.found-is (when_none _ c.parts.found (c.parts.invariant.3 p t a) (λ h. omega (arith, h, v.if-i-index.false)))
  ],
)

pub returns-clause-part : goal.returns-clause-part
returns-clause-part c = λ p t a.
    when_none _ c.parts.found (c.parts.invariant.3 p t a) (none_left c.args.index (c.parts.invariant.2 p t a) c.in_default.ensures)
