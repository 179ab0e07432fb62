use Rattle.std.proofs.Common.{arith}
use Rattle.dns_view.proofs.Puts.{put_one, put_past}
use Rattle.dns_view.proofs.put.put_zero.Goals.{then-at-out, else-at-out}
use Rattle.dns_view.proofs.put.put_zero.Goals as goal

pub returns : goal.returns
returns c = elim c.if-at-out.branch [
  | then-at-out w ↦ rw w.out-is (put_one c.args.out.now c.args.at 0 w.if-at-out.true)
  | else-at-out w ↦ rw w.out-is (put_past 0 (omega (arith, w.if-at-out.false)))
]
