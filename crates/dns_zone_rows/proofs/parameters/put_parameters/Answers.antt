use Rattle.std.proofs.{Common.◌∙◌, Common.ap, Common.map, Common.rules, Common.subst, Common.inr, lemmas.List.Sorted.IsNonDecreasingBy-from_sort_by_key}
use Rattle.std.specs.List.Sorted.{IsStrictlyIncreasing}
use Rattle.dns_fields.specs.Tlvs.{tlvs}
use Rattle.dns_zone_rows.specs.{ParameterViews.parameter_value, Parameters.AreParameters, ParameterSteps.IsFirstFall}
use Rattle.dns_zone_tokens.specs.Remaining.{PutsAll}
use Rattle.dns_zone_tokens.proofs.FirstSteps.{exit_with}
use Rattle.dns_zone_rows.proofs.ParameterSteps.{no_rise, falls_not_rises, key_twice, are_parameters, put_taken, not_written}
use Rattle.dns_zone_rows.proofs.parameters.put_parameters.Goals as goal

pub returns-in_err-parameters-clause-puts : goal.returns-in_err-parameters-clause-puts
returns-in_err-parameters-clause-puts c =
    exit_with (λ r. PutsAll AreParameters r c.args.octets.now.items c.args.octets.now.items c.args.tokens.now) _ c.from_residual.result
    c.from_residual.ensures.1 (not_written _ c.args.tokens.now c.in_err-parameters.ensures.reads)

pub returns-in-Some-clause-puts : goal.returns-in-Some-clause-puts
returns-in-Some-clause-puts c =
    let fall = subst (IsFirstFall c.in-Some.number) c.as_slice-2.ensures.value c.in-Some.ensures.some in
    no_rise c.in_ok-parameters.parameters.items c.sort_unstable_by_key.new.self.items c.in_ok-numbers.numbers.items c.args.tokens.now c.in_ok-parameters.ensures.reads
    c.sort_unstable_by_key.ensures.permutation
    (IsNonDecreasingBy-from_sort_by_key (λ x. x.number) _ c.sort_unstable_by_key.ensures.sorted (λ a r q k. search rules))
    (c.in_ok-numbers.ensures ∙ ap (map (λ x. x.number)) c.as_slice.ensures.value)
    (falls_not_rises fall)

pub returns-in-Some-clause-why : goal.returns-in-Some-clause-why
returns-in-Some-clause-why c =
    let fall = subst (IsFirstFall c.in-Some.number) c.as_slice-2.ensures.value c.in-Some.ensures.some in
    inr (inr (key_twice c.in_ok-parameters.parameters.items c.sort_unstable_by_key.new.self.items c.in_ok-numbers.numbers.items
    c.args.tokens.now c.in-Some.number _ c.in_ok-parameters.ensures.reads c.sort_unstable_by_key.ensures.permutation
    (IsNonDecreasingBy-from_sort_by_key (λ x. x.number) _ c.sort_unstable_by_key.ensures.sorted (λ a r q k. search rules))
    (c.in_ok-numbers.ensures ∙ ap (map (λ x. x.number)) c.as_slice.ensures.value)
    fall c.twice_text.ensures))

pub returns-clause-puts : goal.returns-clause-puts
returns-clause-puts c =
    put_taken (are_parameters c.in_ok-parameters.parameters.items c.sort_unstable_by_key.new.self.items c.in_ok-numbers.numbers.items _ c.args.tokens.now
    c.in_ok-parameters.ensures.reads c.sort_unstable_by_key.ensures.permutation
    (c.in_ok-numbers.ensures ∙ ap (map (λ x. x.number)) c.as_slice.ensures.value)
    (subst IsStrictlyIncreasing c.as_slice-2.ensures.value c.in_default.ensures.none)
    (ap (λ xs. tlvs (map parameter_value xs)) c.as_slice-3.ensures.value))
    c.in_ok-put_wire.ensures
