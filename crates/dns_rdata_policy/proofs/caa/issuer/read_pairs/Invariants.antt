use Rattle.std.proofs.Common.{length}
use Rattle.dns_rdata_policy.proofs.IssuerSteps.{Pending}
use Rattle.dns_rdata_policy.proofs.caa.issuer.read_pairs.Given as goal

abbrev pub invariant-pairs : goal.invariant-pairs
invariant-pairs l = Pending l.octets l.pairs.items l.rest

abbrev pub decreases-pairs : goal.decreases-pairs
decreases-pairs l = length l.rest
