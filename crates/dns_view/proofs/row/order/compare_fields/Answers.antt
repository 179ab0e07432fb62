use Rattle.std.proofs.Common.{ℕ, ◌-◌, ◌+◌, drop, refl, subst, arith, length-take}
use Rattle.dns_view.specs.RowOrder.{ArePlain}
use Rattle.dns_view.proofs.RowOrder.{compared_none, compared_all, plain_waits, no_plain}
use Rattle.dns_view.proofs.RowOrder.{waited_differ, names_differ, names_inside, names_tied, recoded_last, to_recode}
use Rattle.dns_view.proofs.row.order.compare_fields.Goals.{then-is_plain+in-Some}
use Rattle.dns_view.proofs.row.order.compare_fields.Goals.{then-end-names-via-then-end-names, then-end-names-via-else-end-names+then-stop-names}
use Rattle.dns_view.proofs.row.order.compare_fields.Goals.{else-is_plain+else-not-begins_with+in-Name+in-Equal+else-end-names+else-stop-names}
use Rattle.dns_view.proofs.row.order.compare_fields.Goals as goal

pub fields-init : goal.fields-init
fields-init c = (
  compared_none c.args.end c.args.stop c.requires.row (omega arith) (omega arith),
  omega arith,
  omega arith,
  omega arith,
  omega arith,
  omega arith,
)

pub returns-in-None : goal.returns-in-None
returns-in-None c = λ h k. absurd (no_plain _ _ c.fields.invariant.0 (omega (arith, c.fields-test.true, c.requires.count)) refl
    (c.if-is_plain.ensures.yes refl) c.in-None.ensures.none h k)

pub returns-then-not-begins_with : goal.returns-then-not-begins_with
returns-then-not-begins_with c = waited_differ c.fields.invariant.0
    (omega (arith, c.fields-test.true, c.requires.count))
    (λ p. let t = c.begins_with.ensures.1 p in cc (t, c.if-not-begins_with.true)) c.octets_cmp.ensures

pub returns-in_default-order : goal.returns-in_default-order
returns-in_default-order c = λ h k. names_differ _ _ c.fields.invariant.0
    (omega (arith, c.fields-test.true, c.requires.count)) refl (c.begins_with.ensures.0 c.if-not-begins_with.false) c.in-Name.is
    c.order_names-names.ensures.names h k c.in_default-order.not-Equal

pub returns-then-end-names : goal.returns-then-end-names
returns-then-end-names c = λ h k.
    let i = names_inside _ _ c.fields.invariant.0
    (omega (arith, c.fields-test.true, c.requires.count)) refl (c.begins_with.ensures.0 c.if-not-begins_with.false) c.in-Name.is
    c.order_names-names.ensures.names h k in
    absurd (elim c.then-end-names.branch [
      | then-end-names-via-then-end-names w ↦ omega (arith, i.0, w.if-end-names.true)
      | then-end-names-via-else-end-names+then-stop-names w ↦ omega (arith, i.1, w.if-stop-names.true)
    ])

pub compare_recoded-requires : goal.compare_recoded-requires
compare_recoded-requires c = record {
  short_left = omega (
    arith,
    length-take (c.args.end - c.fields.at) (drop c.fields.at c.args.a.now),
    c.fields.invariant.1,
    c.fields.invariant.3,
    c.requires.short_left,
  );
  short_right = omega (
    arith,
    length-take (c.args.stop - (c.fields.to + (c.fields.at - c.fields.from))) (drop (c.fields.to + (c.fields.at - c.fields.from)) c.args.b.now),
    c.fields.invariant.2,
    c.requires.short_right,
  );
}

pub returns-in_default : goal.returns-in_default
returns-in_default c =
    let coded = to_recode _ (c.if-is_plain.ensures.no refl) c.in_default.not-Name in
    recoded_last _ _ c.fields.invariant.0 (omega (arith, c.fields-test.true, c.requires.count)) refl
    (c.begins_with.ensures.0 c.if-not-begins_with.false) coded (c.compare_recoded.ensures coded)

pub fields-preserved : goal.fields-preserved
fields-preserved c = elim c.if-is_plain.branch [
  | then-is_plain+in-Some w ↦ rw (w.from-is, w.to-is, w.at-is) (
    plain_waits _ _ c.fields.invariant.0 (omega (arith, c.fields-test.true, c.requires.count)) refl
        (w.if-is_plain.ensures.yes refl) w.in-Some.ensures.some,
    c.fields.invariant.1,
    c.fields.invariant.2,
    omega (arith, w.in-Some.ensures.range, c.fields.invariant.3),
    omega (arith, w.in-Some.ensures.range),
    c.fields.invariant.5,
  )
  | else-is_plain+else-not-begins_with+in-Name+in-Equal+else-end-names+else-stop-names w ↦ rw (w.from-is, w.to-is, w.at-is) (
    names_tied _ _ c.fields.invariant.0 (omega (arith, c.fields-test.true, c.requires.count)) refl
        (w.begins_with.ensures.0 w.if-not-begins_with.false) w.in-Name.is w.order_names-names.ensures.names w.in-Equal.is
        (omega (arith, w.if-end-names.false, c.requires.left))
        (omega (arith, w.if-stop-names.false, c.requires.right)),
    omega (arith, w.order_names-names.ensures.behind, c.fields.invariant.1, c.fields.invariant.3),
    omega (arith, w.order_names-names.ensures.behind, c.fields.invariant.2),
    omega arith,
    omega (arith, w.if-end-names.false),
    omega (arith, w.if-stop-names.false),
  )
]

pub returns : goal.returns
returns c =
    let all : ArePlain (drop c.fields.index c.args.row.now) = subst (λ (n : ℕ). ArePlain (drop n c.args.row.now))
    (omega (arith, c.fields.auto.index-end, c.fields-test.false)) c.requires.plain in
    compared_all c.fields.invariant.0 all (omega arith) (omega arith) c.octets_cmp-2.ensures
