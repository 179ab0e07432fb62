use Rattle.std.proofs.Common.{arith}
use Rattle.dns_view.proofs.RowOrder.{put_front}
use Rattle.dns_view.proofs.bitmap.order.compare_within.Goals as goal

pub returns-clause-some : goal.returns-clause-some
returns-clause-some g c = λ u v x y.
    let s = put_front (c.put_bitmap-long.ensures.put u x) (omega arith) in
    let t = put_front (c.put_bitmap-other.ensures.put v y) (omega arith) in
    rw (s, t) at c.cmp.ensures
