use Rattle.std.proofs.{Common.rules, Common.List, Common.[], Common.◌∷◌, Common.◌++◌, Common.ap, Common.◌∙◌, lemmas.Fn.filter_same}
use Rattle.dns_rdata_options.specs.OPT.{Pair, without}
use Rattle.dns_rdata_options.proofs.opt.OPT.replace.Goals as goal

pub returns-clause-ok : goal.returns-clause-ok
returns-clause-ok c =
    let code = c.from-code.result in
    rw (← c.from-code.ensures) (c.in_ok-push.ensures.items ∙ ap (λ (l : List Pair). l ++ (code, c.args.option) ∷ [])
    (filter_same _ _ _ (λ x b f' k. search rules) _ _ c.retain.ensures.filtered ∙ ap (without code) (c.in_ok-reserve.ensures.items ∙ c.self.view_is)))
