use Rattle.std.proofs.Common.{◌≡◌, ℕ, List, length}
use Rattle.std.specs.List.{flat_map}
use Rattle.dns_zone_rows.specs.ParameterLists.{IsItem}
use Rattle.dns_zone_rows.proofs.ParameterItems.{ItemsSoFar}
use Rattle.dns_zone_rows.proofs.parameters.lists.list_of.Given as goal

-- the octets are those of the items that were passed
abbrev pub invariant-items : goal.invariant-items
invariant-items l = (parts : List (List ℕ)) × ItemsSoFar (IsItem l.item) l.text l.rest parts × (l.octets.items ≡ flat_map (λ part. part) parts)

abbrev pub decreases-items : goal.decreases-items
decreases-items l = length l.rest
