use Rattle.std.proofs.Common.{length}
use Rattle.dns_registry.proofs.ShortestBitmaps.{Left}
use Rattle.dns_registry.proofs.rule.is_shortest.Given as goal

abbrev pub invariant-windows : goal.invariant-windows
invariant-windows l = Left l.octets l.rest l.least

abbrev pub decreases-windows : goal.decreases-windows
decreases-windows l = length l.rest
