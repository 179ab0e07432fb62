use Rattle.dns_tokens.proofs.Steps.{took_then, took_ignored}
use Rattle.dns_rdata_base.proofs.naptr.NAPTR.from_tokens.Goals as goal

pub returns : goal.returns
returns g c = took_then c.in_ok-order.ensures.reads (took_then c.in_ok-preference.ensures.reads (took_then c.in_ok-flags.ensures.reads (took_then c.in_ok-services.ensures.text (took_then c.in_ok-regexp.ensures.text (took_then c.in_ok-replacement.ensures.reads took_ignored)))))
