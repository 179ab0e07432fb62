use Rattle.std.proofs.Common.{◌≡◌, length, map, take}
use Rattle.std.specs.Char.{to_ascii_lowercase}
use Rattle.dns_labels.proofs.comparing.hash_lowered.Given as goal

abbrev pub invariant-loop-index : goal.invariant-loop-index
invariant-loop-index g l = (length l.lowered ≡ 255) × (take l.index l.lowered ≡ map to_ascii_lowercase (take l.index l.octets))
