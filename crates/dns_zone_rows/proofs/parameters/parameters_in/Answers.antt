use Rattle.std.proofs.{Common.◌∙◌, Common.ap, Common.map, Common.[], Common.◌∷◌, lemmas.List.map-append}
use Rattle.dns_zone_rows.specs.ParameterViews.{parameter_value}
use Rattle.dns_zone_rows.proofs.ParameterSteps.{one_parameter, all_taken}
use Rattle.dns_zone_rows.proofs.parameters.parameters_in.Goals as goal

pub tokens-preserved : goal.tokens-preserved
tokens-preserved c =
    let took = rw c.in-Some.is at c.in_ok-parameter.ensures.reads in
    one_parameter (map parameter_value c.tokens.parameters.items) (map parameter_value c.push.new.self.items) (parameter_value c.in-Some.parameter) c.args.tokens.now
    c.tokens.tokens c.next_parameter.new.tokens c.tokens.invariant took
    (ap (map parameter_value) c.in_ok-push-in-Some.ensures.items ∙ map-append parameter_value c.tokens.parameters.items (c.in-Some.parameter ∷ []))

pub returns-in-None-clause-reads : goal.returns-in-None-clause-reads
returns-in-None-clause-reads c = all_taken (map parameter_value c.tokens.parameters.items) c.args.tokens.now c.tokens.tokens c.tokens.invariant (rw c.in-None.is at c.in_ok-parameter.ensures.reads)
