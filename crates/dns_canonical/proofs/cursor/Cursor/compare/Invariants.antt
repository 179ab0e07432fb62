use Rattle.std.proofs.Common.{◌≡◌, ◌+◌, length}
use Rattle.std.specs.{Cmp.Lexicographic.slice_cmp, Ordering.nat_cmp}
use Rattle.dns_canonical.specs.{Cursor.Chooses, Cursor.Advances, Runs.common}
use Rattle.dns_canonical.proofs.cursor.Cursor.compare.Given as goal

abbrev pub decreases-octets : goal.decreases-octets
decreases-octets g l = length l.self.octets

abbrev pub invariant-octets : goal.invariant-octets
invariant-octets g l = let a = l.self in let b = l.other in let c = l.initial.self in let d = l.initial.other in record {
  order : slice_cmp nat_cmp a.octets b.octets ≡ slice_cmp nat_cmp c.octets d.octets;
  self_taken : a.taken + common a.octets b.octets ≡ c.taken + common c.octets d.octets;
  other_taken : b.taken + common a.octets b.octets ≡ d.taken + common c.octets d.octets;
  self_rest : Advances c a;
  other_rest : Advances d b;
  self_choices : Chooses c a;
  other_choices : Chooses d b;
  self_passes : c.passes + c.windows ≡ a.passes + a.windows;
  other_passes : d.passes + d.windows ≡ b.passes + b.windows;
}
