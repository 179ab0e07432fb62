use Rattle.std.proofs.Common.{arith}
use Rattle.std.proofs.lemmas.Bool.{OnTrue_at, OnTrue_from}
use Rattle.dns_zone_tokens.specs.Views.{token_value}
use Rattle.dns_zone_tokens.proofs.LetterSteps.{plain_put}
use Rattle.dns_zone_tokens.proofs.near.put_near_text.Goals as goal

pub returns : goal.returns
returns c = OnTrue_from c.put_octets.result _ (λ h.
    plain_put (token_value c.args.token) c.args.octets.now.items c.put_octets.new.octets.items c.plain_len.result (omega (arith, c.if-plain_len-token.false))
    c.plain_len.ensures.plain (OnTrue_at h c.put_octets.ensures))
