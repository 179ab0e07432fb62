use Rattle.std.proofs.Common.{ℕ, drop, refl, subst, arith}
use Rattle.dns_view.specs.RowOrder.{ArePlain}
use Rattle.dns_view.proofs.RowOrder.{row_inside, to_recode}
use Rattle.dns_view.proofs.PutLoop.{put_first, put_last, plain_put, no_plain, name_put, no_name, name_within, coded_put}
use Rattle.dns_view.proofs.row.canonical.put_row.Goals.{then-is_plain+in_ok-here, else-is_plain+in-Name+in_ok-next-in-Name+else-end-next}
use Rattle.dns_view.proofs.row.canonical.put_row.Goals as goal

pub fields-init : goal.fields-init
fields-init c = put_first c.requires.row.ordered (omega arith) (omega (arith, c.if-message-end.false))

pub returns-then-message-end : goal.returns-then-message-end
returns-then-message-end c = λ h. omega (arith, row_inside c.args.row.now c.requires.inside h, c.if-message-end.true)

pub returns-in_err-here : goal.returns-in_err-here
returns-in_err-here c = λ h. rw c.from_residual.ensures
    (no_plain _ _ c.fields.invariant (omega (arith, c.fields-test.true, c.fields_to_visit-index-end.ensures.within)) refl
    (c.if-is_plain.ensures.yes refl) c.in_err-here.ensures.none h)

pub returns-in_err-next-in-Name : goal.returns-in_err-next-in-Name
returns-in_err-next-in-Name c = λ h. rw c.from_residual-in_err-next-in-Name.ensures
    (no_name _ _ c.fields.invariant (omega (arith, c.fields-test.true, c.fields_to_visit-index-end.ensures.within)) refl
    c.in-Name.is c.put_octets-middle.ensures c.in_err-next-in-Name.ensures.none h)

pub returns-then-end-next : goal.returns-then-end-next
returns-then-end-next c = λ h.
    let within = name_within _ _ c.fields.invariant (omega (arith, c.fields-test.true, c.fields_to_visit-index-end.ensures.within)) refl
    c.in-Name.is c.put_octets-middle.ensures c.in_ok-next-in-Name.ensures.some h in
    omega (arith, within, c.if-end-next.true)

pub returns-in_default : goal.returns-in_default
returns-in_default c =
    let coded = to_recode _ (c.if-is_plain.ensures.no refl) c.in_default.not-Name in
    coded_put _ _ c.fields.invariant (omega (arith, c.fields-test.true, c.fields_to_visit-index-end.ensures.within)) refl
    coded c.put_octets-middle.ensures c.put_recoded.ensures

pub fields-preserved : goal.fields-preserved
fields-preserved c = elim c.if-is_plain.branch [
  | then-is_plain+in_ok-here w ↦ rw (w.out-is, w.at-is, w.from-is, w.here-is)
      (plain_put _ _ c.fields.invariant (omega (arith, c.fields-test.true, c.fields_to_visit-index-end.ensures.within)) refl
      (w.if-is_plain.ensures.yes refl) w.in_ok-here.ensures.some w.in_ok-here.ensures.range)
  | else-is_plain+in-Name+in_ok-next-in-Name+else-end-next w ↦ rw (w.out-is, w.at-is, w.from-is, w.here-is)
      (name_put _ _ c.fields.invariant (omega (arith, c.fields-test.true, c.fields_to_visit-index-end.ensures.within)) refl
      w.in-Name.is w.put_octets-middle.ensures w.in_ok-next-in-Name.ensures.some w.in_ok-next-in-Name.ensures.few
      (omega (arith, w.if-end-next.false)))
]

pub returns : goal.returns
returns c =
    let all : ArePlain (drop c.fields.index c.args.row.now) = subst (λ (n : ℕ). ArePlain (drop n c.args.row.now))
    (omega (arith, c.fields.auto.index-end, c.fields-test.false)) c.fields_to_visit-index-end.ensures.plain in
    put_last c.fields.invariant all c.put_octets.ensures
