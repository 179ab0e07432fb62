use Rattle.dns_rdata_c.proofs.ZoneReads.{refused_text}
use Rattle.dns_rdata_c.proofs.parse.read_zone_text.Goals as goal

pub returns-in-Err-clause-refused : goal.returns-in-Err-clause-refused
returns-in-Err-clause-refused c = refused_text _ _ _ c.in-Err.error _ c.status_of_text.ensures c.in-Err.ensures.refused c.in-Err.ensures.why
