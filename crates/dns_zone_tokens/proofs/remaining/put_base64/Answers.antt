use Rattle.dns_types.specs.declared.error.ParseError.TheVariants as parse
use Rattle.dns_zone_tokens.specs.Remaining.{AreBase64, PutsAll}
use Rattle.dns_zone_tokens.proofs.{FirstSteps.exit_with, Base64Tokens.no_joined, Base64Tokens.base64_put}
use Rattle.dns_zone_tokens.proofs.remaining.put_base64.Goals as goal

pub returns-in-Some-clause-puts : goal.returns-in-Some-clause-puts
returns-in-Some-clause-puts c = base64_put (parse.Message c.args.wrong) c.put_decoded.result c.args.octets.now.items c.put_decoded.new.octets.items
    c.in-Some.digits.now c.in-Some.ensures c.put_decoded.ensures.ok c.put_decoded.ensures.kept c.put_decoded.ensures.refused

pub returns-in_err-digits-clause-puts : goal.returns-in_err-digits-clause-puts
returns-in_err-digits-clause-puts c = exit_with (λ r. PutsAll AreBase64 r c.args.octets.now.items c.args.octets.now.items c.args.tokens.now) _
    c.from_residual.result c.from_residual.ensures.1 (no_joined _ c.args.tokens.now c.in_err-digits.ensures.reads)

pub returns-clause-puts : goal.returns-clause-puts
returns-clause-puts c = base64_put (parse.Message c.args.wrong) c.put_decoded-2.result c.args.octets.now.items c.put_decoded-2.new.octets.items
    c.as_slice.result.now (rw c.as_slice.ensures.value c.in_ok-digits.ensures.reads) c.put_decoded-2.ensures.ok c.put_decoded-2.ensures.kept c.put_decoded-2.ensures.refused
