use Rattle.std.proofs.{Common.rules, Common.ap, Common.◌∙◌, lemmas.Fn.filter_same}
use Rattle.dns_rdata_options.specs.OPT.{without}
use Rattle.dns_rdata_options.proofs.opt.OPT.remove.Goals as goal

pub returns : goal.returns
returns c = filter_same _ _ _ (λ x b f' k. search rules) _ _ c.retain.ensures.filtered ∙ ap (without c.args.code) c.self.view_is
