use Rattle.std.proofs.Common.{length}
use Rattle.dns_zone_rows.specs.ParameterLists.{IsListedKey}
use Rattle.dns_zone_rows.proofs.ParameterItems.{ItemsSoFar}
use Rattle.dns_zone_rows.proofs.parameters.lists.keys_in.Given as goal

abbrev pub invariant-items : goal.invariant-items
invariant-items l = ItemsSoFar IsListedKey l.text l.rest l.keys.items

abbrev pub decreases-items : goal.decreases-items
decreases-items l = length l.rest
