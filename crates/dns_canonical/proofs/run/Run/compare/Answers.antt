use Rattle.dns_canonical.proofs.Comparing.{kept_at}
use Rattle.dns_canonical.proofs.run.Run.compare.Goals as goal

pub octets-preserved : goal.octets-preserved
octets-preserved c = kept_at _ _ _ _ _ _ _ c.skip_common.ensures c.next.ensures c.next-in-octets.ensures c.in-None.ensures c.octets.invariant
