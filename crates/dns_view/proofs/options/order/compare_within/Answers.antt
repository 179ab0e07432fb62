use Rattle.std.proofs.Common.{take, arith}
use Rattle.std.proofs.lemmas.List.{length-take}
use Rattle.dns_view.specs.OptionOctets.{own_at}
use Rattle.dns_view.proofs.OptionSorts.{options_compared, empty_compared}
use Rattle.dns_view.proofs.options.order.compare_within.Goals as goal
use Rattle.dns_view.proofs.options.order.compare_within.Goals.{then-count-eq0-via-then-count-eq0, then-count-eq0-via-else-count-eq0+then-other-eq0}

pub returns : goal.returns
returns g c = λ u v x y. options_compared (own_at c.args.a.now) (own_at c.args.b.now)
    (take c.list_options-count.result c.list_options-count.new.starts) c.sort_options.new.starts
    (take c.list_options-other.result c.list_options-other.new.starts) c.sort_options-2.new.starts u v x y
    (c.list_options-count.ensures.options u x) c.sort_options.ensures.octets (c.list_options-other.ensures.options v y) c.sort_options-2.ensures.octets
    c.compare_each.ensures

pub returns-then-count-eq0 : goal.returns-then-count-eq0
returns-then-count-eq0 g c =
    let lefts = c.list_options-count.new.starts in
    let rights = c.list_options-other.new.starts in
    λ u v x y. empty_compared (own_at c.args.a.now) (own_at c.args.b.now) (take c.list_options-count.result lefts) (take c.list_options-other.result rights)
    c.list_options-count.result c.list_options-other.result u v
    (c.list_options-count.ensures.options u x) (c.list_options-other.ensures.options v y) (omega (arith, length-take c.list_options-count.result lefts))
    (omega (arith, length-take c.list_options-other.result rights)) (elim c.then-count-eq0.branch [
      | then-count-eq0-via-then-count-eq0 w ↦ λ some other. absurd (omega (arith, some, w.if-count-eq0.true))
      | then-count-eq0-via-else-count-eq0+then-other-eq0 w ↦ λ some other. absurd (omega (arith, other, w.if-other-eq0.true))
    ]) c.cmp.ensures
