use Rattle.std.proofs.Common.{ap, ◌∙◌}
use Rattle.std.specs.{Ordering.ordering_then, Ordering.bool_cmp, declared.cmp.Ordering.Ordering}
use Rattle.dns_labels.proofs.Lowered.{compared}
use Rattle.dns_names_wire.proofs.name.comparing.NameOrd.cmp.Goals as goal

pub returns : goal.returns
returns c =
    let k = compared c.self.inside.octets c.other.inside.octets c.self.invariant.0 c.other.invariant.0 in
    rw (← c.self.view_is, ← c.other.view_is)
    (c.then.ensures ∙ rw (c.compare_lowered.ensures, c.cmp.ensures, c.as_slice.ensures.value, c.as_slice-2.ensures.value, c.get.ensures, c.get-2.ensures)
    (ap (λ (o : Ordering). ordering_then o (bool_cmp c.self.inside.is_fqdn c.other.inside.is_fqdn)) k))
