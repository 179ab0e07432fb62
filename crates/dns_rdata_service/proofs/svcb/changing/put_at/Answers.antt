use Rattle.std.proofs.Common.{◌≡◌, ◌+◌, ◌<◌, ◌≤◌, ◌++◌, ◌∷◌, List, length, take, drop, arith, rules, ◌∙◌, ap, sym, subst, IsTrue}
use Rattle.std.proofs.{Math.ListN.set, lemmas.List.take-append-drop, lemmas.List.take-set, lemmas.List.drop-set}
use Rattle.dns_rdata_service.specs.Parameters.{Parameter}
use Rattle.dns_rdata_service.proofs.svcb.changing.put_at.Goals as goal

-- the item at an index replaced
set_parts : (xs : List Parameter) (i : _) (p : Parameter) → i < length xs → set xs i p ≡ take i xs ++ p ∷ drop (i + 1) xs
set_parts xs i p l = sym (take-append-drop i (set xs i p)) ∙ ap (λ (s : List Parameter). s ++ drop i (set xs i p)) (take-set xs i p)
    ∙ ap (λ (s : List Parameter). take i xs ++ s) (drop-set xs i p l)

pub returns-then-replaces-clause-ok : goal.returns-then-replaces-clause-ok
returns-then-replaces-clause-ok c =
    let there : c.args.at + 1 ≤ length c.args.params.now.items = c.requires.taken (c.if-replaces.true) in
    rw c.if-replaces.true (set_parts c.args.params.now.items c.args.at c.args.parameter (omega (arith, there)))
