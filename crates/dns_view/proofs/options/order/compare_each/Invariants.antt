use Rattle.std.proofs.Common.{◌≡◌, map, drop}
use Rattle.std.specs.{Cmp.Lexicographic.slice_cmp, Ordering.nat_cmp}
use Rattle.dns_view.specs.OptionOctets.{own_at}
use Rattle.dns_view.proofs.options.order.compare_each.Given as goal

abbrev pub invariant-loop-k : goal.invariant-loop-k
invariant-loop-k l = record {
  same : slice_cmp (slice_cmp nat_cmp) (map (own_at l.a) l.left) (map (own_at l.b) l.right)
      ≡ slice_cmp (slice_cmp nat_cmp) (drop l.k (map (own_at l.a) l.left)) (drop l.k (map (own_at l.b) l.right));
}
