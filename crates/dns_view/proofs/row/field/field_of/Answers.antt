use Rattle.std.proofs.Common.{◌<◌, arith}
use Rattle.dns_view.proofs.RowOrder.{row_inside}
use Rattle.dns_view.proofs.FieldAt.{at_field_first, at_field_more, at_field, no_such_field}
use Rattle.dns_view.proofs.row.field.field_of.Goals as goal

pub loop-at-init : goal.loop-at-init
loop-at-init c = at_field_first c.args.number c.requires.row.ordered c.requires.row.covered (omega arith)

pub returns-then-message-end : goal.returns-then-message-end
returns-then-message-end c = λ h. absurd (omega (arith, row_inside c.args.row.now c.requires.inside h, c.if-message-end.true))

pub returns-in_err-next : goal.returns-in_err-next
returns-in_err-next c = λ h. absurd (no_such_field _ c.loop-at.invariant c.loop-at-test.true c.in_err-next.ensures.none h)

pub returns-then-at-number : goal.returns-then-at-number
returns-then-at-number c = λ h. at_field _ c.loop-at.invariant c.loop-at-test.true c.show_field.result c.in_ok-next.ensures.some c.if-at-number.true
    c.show_field.ensures h

pub loop-at-preserved : goal.loop-at-preserved
loop-at-preserved c =
    let lt : c.loop-at.at < c.args.number = omega (arith, c.loop-at.invariant.below) in
    at_field_more _ c.loop-at.invariant c.loop-at-test.true c.in_ok-next.ensures.some c.in_ok-next.ensures.range.1 lt
