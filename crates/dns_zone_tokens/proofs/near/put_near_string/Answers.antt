use Rattle.std.proofs.Common.{arith}
use Rattle.std.proofs.lemmas.Bool.{OnTrue_at, OnTrue_from}
use Rattle.dns_zone_tokens.specs.Views.{token_value}
use Rattle.dns_zone_tokens.proofs.LetterSteps.{plain_string}
use Rattle.dns_zone_tokens.proofs.near.put_near_string.Goals as goal

pub returns : goal.returns
returns c = OnTrue_from c.put_after.result _ (λ h.
    plain_string (token_value c.args.token) c.args.octets.now.items c.put_after.new.octets.items c.plain_len.result (omega (arith, c.if-plain_len-text.false))
    c.plain_len.ensures.plain (omega (arith, c.if-text-gt127.false)) (OnTrue_at h c.put_after.ensures))
