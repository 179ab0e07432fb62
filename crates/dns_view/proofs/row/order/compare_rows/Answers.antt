use Rattle.std.proofs.Common.{ℕ, ◌+◌, drop, subst, arith}
use Rattle.dns_view.specs.RowOrder.{ArePlain}
use Rattle.dns_view.proofs.RowOrder.{compared_none, compared_all, row_inside}
use Rattle.dns_view.proofs.row.order.compare_rows.Goals.{then-a-end-via-then-a-end, then-a-end-via-else-a-end+then-b-stop}
use Rattle.dns_view.proofs.row.order.compare_rows.Goals as goal

pub returns-then-a-end : goal.returns-then-a-end
returns-then-a-end c = λ h k.
    let i = row_inside c.args.row.now c.requires.left h in
    let j = row_inside c.args.row.now c.requires.right k in
    absurd (elim c.then-a-end.branch [
      | then-a-end-via-then-a-end w ↦ omega (arith, i, w.if-a-end.true)
      | then-a-end-via-else-a-end+then-b-stop w ↦ omega (arith, j, w.if-b-stop.true)
    ])

pub returns-then-count-eq0 : goal.returns-then-count-eq0
returns-then-count-eq0 c =
    let all : ArePlain c.args.row.now = subst (λ (n : ℕ). ArePlain (drop n c.args.row.now)) c.if-count-eq0.true c.fields_to_visit-count.ensures.plain in
    compared_all (compared_none (c.args.x + c.args.long) (c.args.y + c.args.other) c.requires.row.ordered c.requires.left c.requires.right) all
    (omega (arith, c.if-a-end.false)) (omega (arith, c.if-b-stop.false)) c.octets_cmp.ensures
