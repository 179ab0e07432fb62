use Rattle.std.proofs.Common.{arith}
use Rattle.dns_check.proofs.RowLoop.{at_first, at_next, at_last, part_refused, row_short}
use Rattle.dns_check.proofs.StepRows.{counted_first, counted_next, counted_refused, counted_last, counted_short}
use Rattle.dns_check.proofs.fields.skip_row.Goals as goal

pub returns-then-len-asked-clause-skips : goal.returns-then-len-asked-clause-skips
returns-then-len-asked-clause-skips c = row_short c.asked_length-asked.ensures (omega arith) c.requires.row.least

pub returns-then-len-asked-clause-steps : goal.returns-then-len-asked-clause-steps
returns-then-len-asked-clause-steps c = counted_short c.args.row.now c.args.walk.now c.args.left.now c.asked_length-asked.ensures (omega arith)

pub fields-init : goal.fields-init
fields-init c = rw c.index-start.ensures.offset
    (at_first c.args.len c.requires.row.ordered c.requires.row.covered, counted_first c.args.walk.now.index c.args.len c.args.left.now)

pub returns-in-Err-clause-skips : goal.returns-in-Err-clause-skips
returns-in-Err-clause-skips c =
    part_refused _ c.fields.invariant.0 c.fields-test.true c.index-start.ensures.offset (omega (arith, c.if-len-asked.false, c.asked_length-asked.ensures)) c.in-Err.ensures.skips

pub returns-in-Err-clause-steps : goal.returns-in-Err-clause-steps
returns-in-Err-clause-steps c =
    counted_refused _ _ c.fields.invariant.1 c.fields-test.true c.in-Err.ensures.steps c.index-start.ensures.offset (omega (arith, c.if-len-asked.false, c.asked_length-asked.ensures)) c.in-Err.ensures.skips

pub fields-preserved : goal.fields-preserved
fields-preserved c = (
  at_next _ c.fields.invariant.0 c.fields-test.true c.index-start.ensures.offset c.in_default.ensures.skips,
  counted_next _ _ c.fields.invariant.1 c.fields-test.true c.in_default.ensures.steps c.in_default.ensures.skips,
)

pub returns-clause-skips : goal.returns-clause-skips
returns-clause-skips c = at_last c.fields.invariant.0 c.fields-test.false

pub returns-clause-steps : goal.returns-clause-steps
returns-clause-steps c = counted_last c.fields.invariant.1 c.fields-test.false c.index-start.ensures.offset (omega (arith, c.if-len-asked.false, c.asked_length-asked.ensures))
