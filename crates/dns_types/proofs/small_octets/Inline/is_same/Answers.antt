use Rattle.std.proofs.Common.{arith}
use Rattle.dns_types.proofs.Overlaps.{by_whole}
use Rattle.dns_types.proofs.small_octets.Inline.is_same.Goals as goal

pub returns : goal.returns
returns g c = rw (← c.self.view_is, ← c.other.view_is)
    (by_whole c.same_arrays.result c.self.inside.len c.other.inside.len g.row.N c.self.inside.octets c.other.inside.octets
    c.self.invariant.0 c.other.invariant.0 (omega arith) (omega arith) c.self.invariant.1 c.other.invariant.1
    c.same_arrays.ensures)
