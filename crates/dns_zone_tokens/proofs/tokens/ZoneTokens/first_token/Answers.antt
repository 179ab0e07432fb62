use Rattle.std.proofs.{lemmas.Bool.Decides.nat_tests, Common.◌≡◌, Common.sym, Common.ap, Common.arith, Common.◌∙◌}
use Rattle.dns_zone_tokens.specs.Tokens.{Cursor}
use Rattle.dns_zone_tokens.proofs.{LetterSteps.from_offset, TokenSteps.run_begins_left, TokenSteps.run_begins_seen}
use Rattle.dns_zone_tokens.proofs.tokens.ZoneTokens.first_token.Goals as goal

pub returns-clause-seen : goal.returns-clause-seen
returns-clause-seen c =
    let rest = c.self.inside.rest.now in
    let depth = c.args.self.depth in
    let joined = c.self.inside.joined in
    let same : c.args.self.text ≡ rest = sym (ap (λ (w : Cursor). w.text) c.self.view_is) in
    let as_joined : c.args.self.joined ≡ joined = sym (ap (λ (w : Cursor). w.joined) c.self.view_is) in
    rw (from_offset c.run_len-len.result rest, same, as_joined) (
    run_begins_seen depth joined rest (rw same at c.requires.some) (rw same at c.requires.no_gap) (grind (arith, nat_tests))
    ∙ c.run_len-len.ensures.token.seen depth joined)

pub returns-clause-left : goal.returns-clause-left
returns-clause-left c =
    let rest = c.self.inside.rest.now in
    let same : c.args.self.text ≡ rest = sym (ap (λ (w : Cursor). w.text) c.self.view_is) in
    rw (from_offset c.run_len-len.result rest, same) (
    run_begins_left c.args.self.depth c.args.self.joined rest (rw same at c.requires.some) (rw same at c.requires.no_gap) (grind (arith, nat_tests))
    ∙ c.run_len-len.ensures.token.left c.args.self.depth c.args.self.joined)
