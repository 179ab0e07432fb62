use Rattle.std.proofs.{lemmas.List.map-append, lemmas.Slice.Zip.all_zipped_more, Common.◌∷◌, Common.[]}
use Rattle.dns_tokens.proofs.Steps.{exit_token_row}
use Rattle.dns_rdata_service.specs.ParameterTokens.{IsParameterToken}
use Rattle.dns_rdata_service.proofs.ItemLists.{parameters_refused, these_took}
use Rattle.dns_rdata_service.proofs.tokens.all_parameters.Goals as goal

pub returns-in_err-parameter-clause-reads : goal.returns-in_err-parameter-clause-reads
returns-in_err-parameter-clause-reads g c =
    rw (← c.into_iter-token-iterator.ensures.into_iter_gives)
    (exit_token_row _ _ _ _ _ _ _ c.from_residual.ensures.1
    (parameters_refused _ _ _ _ _ c.loop-token.yielded_by c.in-Some.ensures.steps c.as_str.ensures c.in_err-parameter.ensures.refused))

pub loop-token-preserved : goal.loop-token-preserved
loop-token-preserved g c =
    rw (map-append g.S.AsStr.text c.loop-token.yielded (c.in-Some.token ∷ []), c.in_ok-push.ensures.ok)
    (all_zipped_more IsParameterToken _ _ _ _ c.loop-token.invariant (rw (← c.as_str.ensures) c.in_ok-parameter.ensures.ok))

pub returns-clause-own : goal.returns-clause-own
returns-clause-own g c =
    rw (← c.into_iter-token-iterator.ensures.into_iter_gives)
    (these_took _ _ _ _ c.loop-token.yielded_by c.in-None.ensures.steps c.loop-token.invariant)
