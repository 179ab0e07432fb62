use Rattle.std.proofs.Common.{arith, length, get_or, ◌+◌, ◌∷◌, take, ap, ◌∙◌, ℕ, drop, sym}
use Rattle.std.proofs.{lemmas.List.take_rest, lemmas.Bool.Decides.nat_tests}
use Rattle.dns_labels.specs.Labels.{labels_of}
use Rattle.dns_labels.proofs.Octets.{first_label}
use Rattle.dns_labels.proofs.labels.LabelIterIterator.next.Goals as goal

pub invariant_of-self : goal.invariant_of-self
invariant_of-self c = let o = c.self.inside.octets.now in
    let f = first_label o c.self.invariant (grind (arith, nat_tests)) in rw (take_rest o) f.others

pub returns-clause-steps : goal.returns-clause-steps
returns-clause-steps c =
    let o = c.self.inside.octets.now in
    let n = get_or o 0 0 in
    let f = first_label o c.self.invariant (grind (arith, nat_tests)) in
    sym c.self.view_is ∙ f.split ∙ rw (take_rest o (n + 1)) (ap (λ (k : ℕ). take k (drop 1 o) ∷ labels_of (drop (n + 1) o)) (omega arith))

pub returns-clause-goes : goal.returns-clause-goes
returns-clause-goes c =
    let e = returns-clause-steps c in
    record { on = λ _. (tt, tt, omega (arith, ap length e)); keeps = tt; rests = λ _. tt }
