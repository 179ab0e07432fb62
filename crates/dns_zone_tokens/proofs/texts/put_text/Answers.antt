use Rattle.std.proofs.Common.{inr, refl, ◌∙◌, ap, [], ◌∷◌, ◌++◌}
use Rattle.dns_zone_tokens.specs.Views.{letter_value, token_value}
use Rattle.dns_zone_tokens.proofs.LetterSteps.{put_run, put_next, put_all, no_text}
use Rattle.dns_zone_tokens.proofs.texts.put_text.Goals as goal

pub returns-then-behind-eq0-clause-puts : goal.returns-then-behind-eq0-clause-puts
returns-then-behind-eq0-clause-puts c = put_all (token_value c.args.token) _ c.args.octets.now.items c.extend_from_slice.new.self.items
    (put_run c.args.token.raw.now c.runs.rest.now c.args.octets.now.items c.runs.octets.items c.extend_from_slice.new.self.items c.plain_len-len.result c.runs.invariant
    c.plain_len-len.ensures.within c.plain_len-len.ensures.plain c.in_ok-extend_from_slice.ensures.items)
    c.if-behind-eq0.true

pub returns-in_default-clause-puts : goal.returns-in_default-clause-puts
returns-in_default-clause-puts c = no_text (token_value c.args.token)
    ((put_run c.args.token.raw.now c.runs.rest.now c.args.octets.now.items c.runs.octets.items c.extend_from_slice.new.self.items c.plain_len-len.result
    c.runs.invariant c.plain_len-len.ensures.within c.plain_len-len.ensures.plain c.in_ok-extend_from_slice.ensures.items).escapes ∙ c.in_default.ensures.none)

pub returns-in_default-clause-why : goal.returns-in_default-clause-why
returns-in_default-clause-why c = inr (
  refl,
  (put_run c.args.token.raw.now c.runs.rest.now c.args.octets.now.items c.runs.octets.items
      c.extend_from_slice.new.self.items c.plain_len-len.result
      c.runs.invariant c.plain_len-len.ensures.within c.plain_len-len.ensures.plain c.in_ok-extend_from_slice.ensures.items).escapes ∙ c.in_default.ensures.none,
)

pub runs-preserved : goal.runs-preserved
runs-preserved c = put_next c.args.token.raw.now _ c.args.octets.now.items c.extend_from_slice.new.self.items c.push.new.self.items c.in-Some.count (letter_value c.in-Some.letter)
    (put_run c.args.token.raw.now c.runs.rest.now c.args.octets.now.items c.runs.octets.items c.extend_from_slice.new.self.items c.plain_len-len.result c.runs.invariant
    c.plain_len-len.ensures.within c.plain_len-len.ensures.plain c.in_ok-extend_from_slice.ensures.items)
    c.in-Some.ensures.some (c.in_ok-push.ensures.items ∙ ap (λ o. c.extend_from_slice.new.self.items ++ o ∷ []) c.octet.ensures)
