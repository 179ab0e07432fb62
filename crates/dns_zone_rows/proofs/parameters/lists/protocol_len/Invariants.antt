use Rattle.std.proofs.Common.{◌≡◌, ◌+◌, ◌≤◌, length, false}
use Rattle.dns_zone_rows.specs.ParameterLists.{unescaped_from, escapes_end_from}
use Rattle.dns_zone_rows.proofs.parameters.lists.protocol_len.Given as goal

-- so many octets were passed
abbrev pub invariant-octets : goal.invariant-octets
invariant-octets l = record {
  escapes : escapes_end_from false l.item ≡ escapes_end_from false l.rest;
  value : length (unescaped_from false l.item) ≡ l.len + length (unescaped_from false l.rest);
  within : l.len + length l.rest ≤ length l.item;
}

abbrev pub decreases-octets : goal.decreases-octets
decreases-octets l = length l.rest
