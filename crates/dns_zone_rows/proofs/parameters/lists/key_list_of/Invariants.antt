use Rattle.std.proofs.Common.{◌≡◌, take}
use Rattle.std.specs.{Int.bytes_high_first, List.flat_map}
use Rattle.dns_zone_rows.proofs.parameters.lists.key_list_of.Given as goal

abbrev pub invariant-loop-key : goal.invariant-loop-key
invariant-loop-key l = l.octets.items ≡ flat_map (bytes_high_first 2) (take l.key-index l.key-items)
