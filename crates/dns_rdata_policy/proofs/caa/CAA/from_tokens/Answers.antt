use Rattle.std.proofs.Common.{sym}
use Rattle.dns_tokens.proofs.Steps.{took_then, took_as, took_ignored}
use Rattle.dns_rdata_policy.proofs.CaaValues.{flags_back}
use Rattle.dns_rdata_policy.proofs.caa.CAA.from_tokens.Goals as goal

pub returns-clause-reads : goal.returns-clause-reads
returns-clause-reads g c =
    rw (c.from_vec.ensures, c.into_vec.ensures, c.from_vec-2.ensures, c.into_vec-2.ensures)
    (took_as (sym (flags_back c.in_ok-flags.flags c.in_ok-flags.ensures.reads.is.fits)) c.in_ok-flags.ensures.reads (took_then c.in_ok-tag.ensures.text (took_then c.in_ok-value.ensures.rest took_ignored)))
