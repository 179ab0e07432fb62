use Rattle.std.proofs.{lemmas.Bool.Decides.nat_tests, Common.sym, Common.arith, Common.◌∙◌}
use Rattle.dns_zone_tokens.proofs.{LetterSteps.from_offset, TokenSteps.no_gap, TokenSteps.run_begins_seen}
use Rattle.dns_zone_tokens.proofs.tokens.near_token.Goals as goal

pub returns-clause-seen : goal.returns-clause-seen
returns-clause-seen c = λ depth.
    let rest = c.behind_blank-is_joined.result.0.now in
    let joined = c.behind_blank-is_joined.result.1 in
    rw (from_offset c.run_len-len.result rest) (
    c.behind_blank-is_joined.ensures.same_seen depth
    ∙ run_begins_seen depth joined rest (omega arith) (no_gap rest (sym c.begins_gap.ensures ∙ c.if-begins_gap.false)) (grind (arith, nat_tests))
    ∙ c.run_len-len.ensures.token.seen depth joined)
