use Rattle.std.proofs.Common.{ap, ◌∙◌}
use Rattle.std.proofs.lemmas.Map.Text.{is_eq-slice_cmp}
use Rattle.std.specs.Ordering.{is_eq}
use Rattle.dns_view.specs.NamesShown.{octets_shown}
use Rattle.dns_view.proofs.NamesShown.{same_octets}
use Rattle.dns_view.proofs.name.name_ref.NameRefPartialEq.eq.Goals as goal

pub returns-clause-value : goal.returns-clause-value
returns-clause-value c = c.is_eq.ensures ∙ ap is_eq c.compare.ensures.octets ∙ is_eq-slice_cmp (octets_shown c.args.self.now) (octets_shown c.args.other.now)

pub returns-clause-exact : goal.returns-clause-exact
returns-clause-exact c = same_octets _ _ c.is_eq.result (c.is_eq.ensures ∙ ap is_eq c.compare.ensures.octets)
