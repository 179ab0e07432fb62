use Rattle.std.proofs.Common.{length, get_or, List, arith, ap, ◌∙◌, sym, Some, ℕ}
use Rattle.std.proofs.lemmas.List.{get_or_default}
use Rattle.dns_names_wire.proofs.NameFacts.{octet_within, octet_last, octet_past}
use Rattle.dns_names_wire.proofs.name.Name.octet.Goals as goal

pub returns-then-index-len-clause-value : goal.returns-then-index-len-clause-value
returns-then-index-len-clause-value c = rw (← c.self.view_is)
    (ap (λ (n : ℕ). Some n) c.to_ascii_lowercase.ensures.value
    ∙ sym (octet_within c.self.inside.octets c.self.inside.is_fqdn c.args.index (get_or c.as_slice-octets.result.now c.args.index 0) c.self.invariant.0
    (omega (arith, ap length c.as_slice-octets.ensures.value))
    (ap (λ (x : List ℕ). get_or x c.args.index 0) c.as_slice-octets.ensures.value
    ∙ sym (get_or_default c.self.inside.octets c.args.index _ 0 (omega (arith, ap length c.as_slice-octets.ensures.value))))))

pub returns-then-index-len-2-clause-value : goal.returns-then-index-len-2-clause-value
returns-then-index-len-2-clause-value c =
    rw (← c.self.view_is) (sym (octet_last c.self.inside.octets c.self.inside.is_fqdn c.args.index c.self.invariant.0
    (omega (arith, ap length c.as_slice-octets.ensures.value))))

pub returns-else-index-len-2-clause-value : goal.returns-else-index-len-2-clause-value
returns-else-index-len-2-clause-value c =
    rw (← c.self.view_is) (sym (octet_past c.self.inside.octets c.self.inside.is_fqdn c.args.index c.self.invariant.0
    (omega (arith, ap length c.as_slice-octets.ensures.value))))
