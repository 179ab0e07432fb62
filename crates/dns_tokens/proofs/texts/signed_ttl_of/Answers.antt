use Rattle.dns_tokens.proofs.Ttls.{no_ttl}
use Rattle.dns_tokens.proofs.texts.signed_ttl_of.Goals as goal

pub returns-then-seconds-gt2147483647-clause-reads : goal.returns-then-seconds-gt2147483647-clause-reads
returns-then-seconds-gt2147483647-clause-reads c = no_ttl _ c.in-Ok.ensures.ok c.if-seconds-gt2147483647.true
