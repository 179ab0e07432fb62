use Rattle.std.proofs.Common.{◌≡◌, drop, map}
use Rattle.std.specs.{Cmp.Lexicographic.slice_cmp, Ordering.nat_cmp}
use Rattle.dns_rdata_service.proofs.hints.hints_cmp.Given as goal

abbrev pub invariant-loop-i : goal.invariant-loop-i
invariant-loop-i g l =
    slice_cmp (slice_cmp nat_cmp) (map g.T.Address.octets (drop l.i l.a)) (map g.T.Address.octets (drop l.i l.b))
    ≡ slice_cmp (slice_cmp nat_cmp) (map g.T.Address.octets l.a) (map g.T.Address.octets l.b)
