use Rattle.std.proofs.Common.{◌≡◌, ◌++◌, length, true, false}
use Rattle.dns_zone_rows.specs.ParameterLists.{unescaped_from, escapes_end_from}
use Rattle.dns_zone_rows.proofs.parameters.lists.push_name.Given as goal

-- what the octets that were passed mean is written
abbrev pub invariant-octets : goal.invariant-octets
invariant-octets l = record {
  escapes : escapes_end_from false l.rest ≡ true;
  value : l.fn.octets.items ++ unescaped_from false l.item ≡ l.octets.items ++ unescaped_from false l.rest;
}

abbrev pub decreases-octets : goal.decreases-octets
decreases-octets l = length l.rest
