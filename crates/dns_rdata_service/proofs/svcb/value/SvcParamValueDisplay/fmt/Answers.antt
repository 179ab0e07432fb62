use Rattle.dns_rdata_base.specs.{A.a_text, AAAA.aaaa_text}
use Rattle.dns_rdata_service.proofs.EachEmits.{each_known}
use Rattle.dns_rdata_service.proofs.svcb.value.SvcParamValueDisplay.fmt.Goals as goal

pub returns-in-Ipv4Hint-clause-writes : goal.returns-in-Ipv4Hint-clause-writes
returns-in-Ipv4Hint-clause-writes g c = rw c.in-Ipv4Hint.is (rw (each_known a_text c.in-Ipv4Hint.value.0) at c.write-in-Ipv4Hint.ensures.writes)

pub returns-in-Ipv6Hint-clause-writes : goal.returns-in-Ipv6Hint-clause-writes
returns-in-Ipv6Hint-clause-writes g c = rw c.in-Ipv6Hint.is (rw (each_known aaaa_text c.in-Ipv6Hint.value.0) at c.write-in-Ipv6Hint.ensures.writes)
