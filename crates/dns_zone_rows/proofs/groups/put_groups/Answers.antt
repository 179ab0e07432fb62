use Rattle.std.proofs.Common.{◌≡◌, ◌*◌, ◌+◌, ◌<◌, get_or, arith, sym, ◌∙◌}
use Rattle.dns_zone_rows.proofs.GroupSteps.{digit_fits, next_digit, next_group}
use Rattle.dns_zone_rows.proofs.groups.put_groups.Goals.{then-c-form+else-count-form+in_ok-add_number, else-c-form+in-Some+else-count-form-2}
use Rattle.dns_zone_rows.proofs.groups.put_groups.Goals as goal

pub overflow_mul-value : goal.overflow_mul-value
overflow_mul-value c =
    let small = digit_fits c.loop-c.count c.args.form.width c.loop-c.value 0 c.requires c.if-count-form-2.false c.loop-c.invariant.small (omega arith) in
    omega (arith, small)

pub overflow_add-value : goal.overflow_add-value
overflow_add-value c =
    let small = digit_fits c.loop-c.count c.args.form.width c.loop-c.value c.in-Some.digit c.requires c.if-count-form-2.false c.loop-c.invariant.small c.in-Some.ensures.small in
    omega (arith, small)

pub loop-c-preserved : goal.loop-c-preserved
loop-c-preserved c = elim c.if-c-form.branch [
  | then-c-form+else-count-form+in_ok-add_number w ↦ rw (w.value-is, w.count-is, w.octets-is) (next_group c.args.form c.args.text.now c.args.octets.now.items
      c.loop-c.octets.items _ c.loop-c.value c.loop-c.count c.loop-c.c-index c.loop-c.invariant c.loop-c-test.true w.if-c-form.true w.if-count-form.false w.in_ok-add_number.ensures.added)
  | else-c-form+in-Some+else-count-form-2 w ↦ rw (w.value-is, w.count-is, w.octets-is) (next_digit c.args.form c.args.text.now c.args.octets.now.items
      c.loop-c.octets.items c.loop-c.value c.loop-c.count c.loop-c.c-index w.in-Some.digit c.loop-c.invariant c.loop-c-test.true w.if-c-form.false
      (sym w.hex_digit.ensures.value ∙ w.in-Some.is) w.in-Some.ensures.small w.if-count-form-2.false)
]
