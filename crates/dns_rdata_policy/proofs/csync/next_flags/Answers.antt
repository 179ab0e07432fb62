use Rattle.dns_tokens.proofs.Steps.{token_read}
use Rattle.dns_rdata_policy.proofs.csync.next_flags.Goals as goal

pub returns-clause-reads : goal.returns-clause-reads
returns-clause-reads g c = token_read _ _ _ _ _ _ _ c.in_ok-token.ensures.gave c.as_str.ensures c.flags_of.ensures
