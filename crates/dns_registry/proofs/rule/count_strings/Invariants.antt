use Rattle.std.proofs.Common.{◌≡◌, ◌≤◌, ◌-◌, List, ℕ, length}
use Rattle.std.specs.List.{flat_map}
use Rattle.dns_fields.specs.Tlvs.{string}
use Rattle.dns_registry.proofs.StringCounts.{Counted}
use Rattle.dns_registry.proofs.rule.count_strings.Given as goal

abbrev pub invariant-strings : goal.invariant-strings
invariant-strings l = (l.count ≤ l.offset) × ((v : List (List ℕ)) → l.octets ≡ flat_map string v → Counted l.octets l.offset l.count v)

abbrev pub decreases-strings : goal.decreases-strings
decreases-strings l = length l.octets - l.offset
