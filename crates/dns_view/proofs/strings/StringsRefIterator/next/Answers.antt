use Rattle.std.proofs.Common.{sym, refl, ◌∙◌, arith}
use Rattle.dns_view.proofs.{StringSteps.next_string, Yielding.fewer_left}
use Rattle.dns_view.proofs.strings.StringsRefIterator.next.Goals as goal

pub returns-clause-steps : goal.returns-clause-steps
returns-clause-steps c =
    sym c.self.view_is ∙ next_string c.self.inside.octets.now _ (omega arith) refl (omega arith)

pub returns-clause-goes : goal.returns-clause-goes
returns-clause-goes c =
    let e = sym c.self.view_is ∙ next_string c.self.inside.octets.now _ (omega arith) refl (omega arith) in
    record { on = λ _. (tt, tt, fewer_left e); keeps = tt; rests = λ _. tt }
