use Rattle.std.proofs.Common.{ap, sym, ◌∙◌}
use Rattle.std.specs.Ordering.{is_eq}
use Rattle.dns_rdata.specs.ViewOrder.{view_ties}
use Rattle.dns_rdata.proofs.ViewOrder.{told_equal, equal_as}
use Rattle.dns_rdata.proofs.view_order.RDataRefPartialEq.eq.Goals as goal

pub returns-clause-value : goal.returns-clause-value
returns-clause-value c = c.is_eq.ensures ∙ ap is_eq c.order.ensures ∙ sym (view_ties c.args.self.now c.args.other.now)

pub returns-clause-exact : goal.returns-clause-exact
returns-clause-exact c = told_equal c.args.self.now c.args.other.now c.is_eq.result
    (c.is_eq.ensures ∙ ap is_eq c.order.ensures ∙ sym (view_ties c.args.self.now c.args.other.now))

pub returns-clause-values : goal.returns-clause-values
returns-clause-values c = λ m p n t v l q k u w a f b g.
    equal_as (c.is_eq.ensures ∙ ap is_eq c.order.ensures ∙ sym (view_ties c.args.self.now c.args.other.now)) a f b g
