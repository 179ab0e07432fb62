use Rattle.dns_tokens.proofs.Steps.{token_read}
use Rattle.dns_tokens.proofs.reading.next_signed_ttl.Goals as goal

pub returns-clause-reads : goal.returns-clause-reads
returns-clause-reads g c = token_read _ _ _ _ _ _ _ c.in_ok-token.ensures.gave c.as_str.ensures c.signed_ttl_of.ensures.reads
