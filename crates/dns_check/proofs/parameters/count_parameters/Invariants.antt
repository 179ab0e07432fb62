use Rattle.std.proofs.Common.{◌-◌, ◌≤◌}
use Rattle.dns_check.proofs.ParameterSteps.{Counted}
use Rattle.dns_check.proofs.parameters.count_parameters.Given as goal

abbrev pub invariant-parameters : goal.invariant-parameters
invariant-parameters l = record {
  on : Counted l.message l.at l.count l.last l.offset;
  within : l.offset ≤ l.end;
}

abbrev pub decreases-parameters : goal.decreases-parameters
decreases-parameters l = l.end - l.offset
