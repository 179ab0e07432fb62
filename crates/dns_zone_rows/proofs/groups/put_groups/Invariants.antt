use Rattle.std.proofs.Common.{◌≡◌}
use Rattle.dns_zone_rows.proofs.GroupSteps.{GroupsSoFar}
use Rattle.dns_zone_rows.proofs.groups.put_groups.Given as goal

abbrev pub invariant-loop-c : goal.invariant-loop-c
invariant-loop-c l = GroupsSoFar l.form l.text l.initial.octets.items l.octets.items l.value l.count l.c-index
