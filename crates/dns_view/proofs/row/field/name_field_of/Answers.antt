use Rattle.std.proofs.Common.{arith}
use Rattle.dns_view.proofs.RowOrder.{row_inside}
use Rattle.dns_view.proofs.NameFields.{at_name_first, after_other, after_name, at_this_name, no_more_names, no_field_left}
use Rattle.dns_view.proofs.row.field.name_field_of.Goals.{in-Name+else-left-eq0, in_default}
use Rattle.dns_view.proofs.row.field.name_field_of.Goals as goal

pub fields-init : goal.fields-init
fields-init c = at_name_first c.args.number c.requires.row.ordered (omega arith)

pub returns-then-message-end : goal.returns-then-message-end
returns-then-message-end c = λ h. absurd (omega (arith, row_inside c.args.row.now c.requires.inside h, c.if-message-end.true))

pub returns-in_err-next : goal.returns-in_err-next
returns-in_err-next c = λ h. absurd (no_field_left _ c.fields.invariant c.fields-test.true c.in_err-next.ensures.none h)

pub returns : goal.returns
returns c = λ h. no_more_names c.fields.invariant c.fields-test.false

pub returns-then-left-eq0 : goal.returns-then-left-eq0
returns-then-left-eq0 c = λ h.
    at_this_name _ c.fields.invariant c.fields-test.true c.at.result c.in-Name.is (omega arith) c.at.ensures.message c.at.ensures.offset h

pub fields-preserved : goal.fields-preserved
fields-preserved c = elim c.match-part.branch [
  | in-Name+else-left-eq0 w ↦ rw (w.here-is, w.left-is)
      (after_name _ c.fields.invariant c.fields-test.true c.in_ok-next.ensures.some c.in_ok-next.ensures.range.1 w.in-Name.is (omega arith))
  | in_default w ↦ rw (w.here-is, w.left-is)
      (after_other _ c.fields.invariant c.fields-test.true c.in_ok-next.ensures.some c.in_ok-next.ensures.range.1 w.in_default.not-Name)
]
