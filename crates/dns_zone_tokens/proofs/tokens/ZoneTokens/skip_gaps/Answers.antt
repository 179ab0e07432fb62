use Rattle.std.proofs.Common.{arith, ◌∙◌, sym, drop}
use Rattle.dns_zone_tokens.specs.declared.tokens_error.TokensError.TheVariants.{NoParenthesis}
use Rattle.dns_zone_tokens.proofs.TokenSteps.{closes_nothing, tokens_walk, seen_walk, lefts_walk, stays_refused, refused_seen, refused_left}
use Rattle.dns_zone_tokens.proofs.tokens.ZoneTokens.skip_gaps.Goals as goal

pub returns-then-depth-eq0-clause-refused : goal.returns-then-depth-eq0-clause-refused
returns-then-depth-eq0-clause-refused c =
    sym c.gaps.invariant.same ∙ closes_nothing tokens_walk c.gaps.depth c.gaps.joined c.gaps.rest.now (omega arith) (omega arith) (omega arith)
    ∙ stays_refused NoParenthesis (drop 1 c.gaps.rest.now)

pub returns-then-depth-eq0-clause-none_seen : goal.returns-then-depth-eq0-clause-none_seen
returns-then-depth-eq0-clause-none_seen c =
    sym c.gaps.invariant.seen ∙ closes_nothing seen_walk c.gaps.depth c.gaps.joined c.gaps.rest.now (omega arith) (omega arith) (omega arith)
    ∙ refused_seen NoParenthesis (drop 1 c.gaps.rest.now)

pub returns-then-depth-eq0-clause-none_left : goal.returns-then-depth-eq0-clause-none_left
returns-then-depth-eq0-clause-none_left c =
    sym c.gaps.invariant.left ∙ closes_nothing lefts_walk c.gaps.depth c.gaps.joined c.gaps.rest.now (omega arith) (omega arith) (omega arith)
    ∙ refused_left NoParenthesis (drop 1 c.gaps.rest.now)
