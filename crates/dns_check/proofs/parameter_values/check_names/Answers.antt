use Rattle.std.proofs.Common.{inr, refl, arith, rules}
use Rattle.dns_check.proofs.ValueForms.{names_more, names_wrong, names_done}
use Rattle.dns_check.proofs.parameter_values.check_names.Goals as goal

pub returns-then-not-is_text-clause-refused : goal.returns-then-not-is_text-clause-refused
returns-then-not-is_text-clause-refused c =
    inr (inr (refl, names_wrong c.names.invariant c.names-test.true refl (omega arith) (λ t. let r = c.if-not-is_text.ensures.1 t in absurd (cc r))))

pub names-preserved : goal.names-preserved
names-preserved c =
    names_more c.names.invariant c.names-test.true refl (omega arith) (c.if-not-is_text.ensures.0 (search rules)) (λ i. omega (arith, c.type_inv.octets i))

pub returns-clause-found : goal.returns-clause-found
returns-clause-found c = names_done c.names.invariant (omega arith) (omega arith)
