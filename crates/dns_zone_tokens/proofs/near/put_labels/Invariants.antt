use Rattle.std.proofs.Common.{length}
use Rattle.dns_zone_tokens.proofs.NearNames.{SetSoFar}
use Rattle.dns_zone_tokens.proofs.near.put_labels.Given as goal

abbrev pub invariant-labels : goal.invariant-labels
invariant-labels l = SetSoFar l.text l.rest l.fn.octets.items l.octets.items l.start

abbrev pub decreases-labels : goal.decreases-labels
decreases-labels l = length l.rest
