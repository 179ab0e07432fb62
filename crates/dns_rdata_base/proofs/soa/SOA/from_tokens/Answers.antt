use Rattle.std.proofs.lemmas.Int.{to_z-of_z}
use Rattle.std.specs.Int.{w32}
use Rattle.dns_tokens.proofs.Steps.{took_then, took_ignored}
use Rattle.dns_rdata_base.proofs.soa.SOA.from_tokens.Goals as goal

pub returns-clause-reads : goal.returns-clause-reads
returns-clause-reads g c = rw (to_z-of_z w32 c.in_ok-refresh.refresh c.in_ok-refresh.ensures.fits, to_z-of_z w32 c.in_ok-retry.retry c.in_ok-retry.ensures.fits, to_z-of_z w32 c.in_ok-expire.expire c.in_ok-expire.ensures.fits) (took_then c.in_ok-mname.ensures.reads (took_then c.in_ok-rname.ensures.reads (took_then c.in_ok-serial.ensures.reads (took_then c.in_ok-refresh.ensures.reads (took_then c.in_ok-retry.ensures.reads (took_then c.in_ok-expire.ensures.reads (took_then c.in_ok-minimum.ensures.reads took_ignored)))))))
