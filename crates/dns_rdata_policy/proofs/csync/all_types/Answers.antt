use Rattle.std.proofs.{Common.◌∷◌, Common.[], Common.◌++◌, Common.refl, lemmas.List.map-append}
use Rattle.dns_types.specs.RecordTypes.{number_of}
use Rattle.dns_tokens.proofs.Steps.{exit_token_row}
use Rattle.dns_rdata_policy.proofs.TokenTypes.{types_more, types_refused, types_took}
use Rattle.dns_rdata_policy.proofs.csync.all_types.Goals as goal

pub returns-in_err-kind : goal.returns-in_err-kind
returns-in_err-kind g c = rw (← c.into_iter-token-iterator.ensures.into_iter_gives) (exit_token_row _ _ _ _ _ _ _ c.from_residual.ensures.1 (types_refused _ _ _ _ _ c.loop-token.yielded_by c.in-Some.ensures.steps c.as_str.ensures c.in_err-kind.ensures.refused))

pub loop-token-preserved : goal.loop-token-preserved
loop-token-preserved g c = (
  c.loop-token.invariant.0 ++ c.in_ok-kind.kind ∷ [],
  rw (map-append g.S.AsStr.text c.loop-token.yielded (c.in-Some.token ∷ [])) (types_more _ _ _ _ c.loop-token.invariant.1 (rw (← c.as_str.ensures) c.in_ok-kind.ensures.found)),
  rw (c.in_ok-push.ensures.items, c.loop-token.invariant.2, c.from.ensures, map-append number_of c.loop-token.invariant.0 (c.in_ok-kind.kind ∷ [])) refl,
)

pub returns : goal.returns
returns g c = rw (← c.into_iter-token-iterator.ensures.into_iter_gives) (types_took _ _ _ _ _ c.loop-token.yielded_by c.in-None.ensures.steps c.loop-token.invariant c.of_numbers.ensures)
