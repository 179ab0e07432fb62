use Rattle.dns_zone_tokens.specs.Remaining.{AreBase64}
use Rattle.dns_zone_rows.proofs.Adding.{rest_some}
use Rattle.dns_zone_rows.proofs.remaining.add_base64.Goals as goal

pub returns-clause-adds : goal.returns-clause-adds
returns-clause-adds c = rest_some AreBase64 c.put_base64.result _ _ c.args.tokens.now c.in_ok-ask_some.ensures.some c.put_base64.ensures.puts
