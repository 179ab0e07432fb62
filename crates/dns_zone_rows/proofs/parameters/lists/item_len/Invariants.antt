use Rattle.std.proofs.Common.{◌≡◌, length, take, drop, ◌-◌, ◌≤◌, false, []}
use Rattle.dns_zone_rows.specs.ParameterLists.{items_from}
use Rattle.dns_zone_rows.proofs.parameters.lists.item_len.Given as goal

-- the item is what was passed so far, and goes on
abbrev pub invariant-octets : goal.invariant-octets
invariant-octets l = record {
  within : l.at ≤ length l.text;
  so : items_from false [] l.text ≡ items_from false (take l.at l.text) (drop l.at l.text);
}

abbrev pub decreases-octets : goal.decreases-octets
decreases-octets l = length l.text - l.at
