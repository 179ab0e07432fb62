use Rattle.std.proofs.Common.{◌≡◌, length}
use Rattle.std.specs.{Ordering.nat_cmp, Cmp.Lexicographic.slice_cmp}
use Rattle.dns_canonical.proofs.run.Run.compare.Given as goal

abbrev pub decreases-octets : goal.decreases-octets
decreases-octets l = length l.self

abbrev pub invariant-octets : goal.invariant-octets
invariant-octets l = slice_cmp nat_cmp l.self l.other ≡ slice_cmp nat_cmp l.initial.self l.initial.other
