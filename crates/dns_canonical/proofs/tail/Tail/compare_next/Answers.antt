use Rattle.dns_canonical.proofs.Comparing.{kept_at}
use Rattle.dns_canonical.proofs.tail.Tail.compare_next.Goals as goal

pub octets-preserved : goal.octets-preserved
octets-preserved c = kept_at _ _ _ _ _ _ _ c.skip_common.ensures.shares c.next.ensures c.next-in-octets.ensures c.in-None.ensures c.octets.invariant
