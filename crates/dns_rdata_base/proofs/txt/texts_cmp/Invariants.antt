use Rattle.std.proofs.Common.{◌≡◌, drop}
use Rattle.std.specs.{Cmp.Lexicographic.slice_cmp, List.flat_map, Ordering.nat_cmp}
use Rattle.dns_fields.specs.Tlvs.{string}
use Rattle.dns_rdata_base.proofs.txt.texts_cmp.Given as goal

abbrev pub invariant-loop-at : goal.invariant-loop-at
invariant-loop-at l =
    slice_cmp nat_cmp (flat_map string (drop l.at l.a)) (flat_map string (drop l.at l.b)) ≡ slice_cmp nat_cmp (flat_map string l.a) (flat_map string l.b)
