use Rattle.std.proofs.{Common.rules, Common.ap, Common.◌∙◌, lemmas.Fn.filter_same}
use Rattle.dns_rdata_service.specs.{Changing.removed, SvcParamKey.key_number}
use Rattle.dns_rdata_service.proofs.svcb.SVCB.remove.Goals as goal

pub returns-clause-removed : goal.returns-clause-removed
returns-clause-removed c = c.from_vec.ensures ∙ filter_same _ _ _ (λ x b f' k. search rules) _ _ c.retain.ensures.filtered ∙ ap (removed (key_number c.args.key)) (c.into_vec-params.ensures ∙ c.replace-params.ensures.value)
