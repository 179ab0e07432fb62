use Rattle.std.proofs.Common.{arith}
use Rattle.dns_view.specs.OptionOctets.{own_at}
use Rattle.dns_view.proofs.OptionSorts.{same_so_far, first_differs, left_longer, right_longer, both_end}
use Rattle.dns_view.proofs.options.order.compare_each.Goals as goal

pub loop-k-preserved : goal.loop-k-preserved
loop-k-preserved c = record {
  same = same_so_far (own_at c.args.a.now) (own_at c.args.b.now) c.args.left.now c.args.right.now c.loop-k.k (omega arith) (omega arith) c.loop-k.invariant.same
      c.in-Equal.ensures;
}

pub returns-in_default : goal.returns-in_default
returns-in_default c = first_differs (own_at c.args.a.now) (own_at c.args.b.now) c.args.left.now c.args.right.now c.loop-k.k (omega arith) (omega arith)
    c.loop-k.invariant.same c.compare_at.ensures c.in_default.not-Equal

pub returns-then-left-most : goal.returns-then-left-most
returns-then-left-most c = left_longer (own_at c.args.a.now) (own_at c.args.b.now) c.args.left.now c.args.right.now c.loop-k.k (omega arith) (omega arith)
    c.loop-k.invariant.same

pub returns-then-right-most : goal.returns-then-right-most
returns-then-right-most c = right_longer (own_at c.args.a.now) (own_at c.args.b.now) c.args.left.now c.args.right.now c.loop-k.k (omega arith) (omega arith)
    c.loop-k.invariant.same

pub returns : goal.returns
returns c = both_end (own_at c.args.a.now) (own_at c.args.b.now) c.args.left.now c.args.right.now c.loop-k.k (omega arith) (omega arith) c.loop-k.invariant.same
