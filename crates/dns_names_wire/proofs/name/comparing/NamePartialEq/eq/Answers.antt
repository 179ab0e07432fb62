use Rattle.dns_labels.proofs.Lowered.{with_mark}
use Rattle.dns_names_wire.proofs.NameFacts.{name_eq_exact}
use Rattle.dns_names_wire.proofs.name.comparing.NamePartialEq.eq.Goals as goal

pub returns-then-mark-other_mark-clause-value : goal.returns-then-mark-other_mark-clause-value
returns-then-mark-other_mark-clause-value c =
    rw (← c.self.view_is, ← c.other.view_is)
    (with_mark c.self.inside.octets c.other.inside.octets c.is_same.result _ c.self.invariant.0 c.other.invariant.0
    (rw (c.get-mark.ensures, c.get-other_mark.ensures) at c.if-mark-other_mark.true) c.is_same.ensures)

pub returns-then-mark-other_mark-clause-exact : goal.returns-then-mark-other_mark-clause-exact
returns-then-mark-other_mark-clause-exact c = name_eq_exact c.is_same.result _ _ (returns-then-mark-other_mark-clause-value c)
