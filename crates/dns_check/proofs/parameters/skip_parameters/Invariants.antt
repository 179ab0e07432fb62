use Rattle.std.proofs.Common.{◌-◌, ◌≤◌}
use Rattle.dns_check.proofs.ParameterSteps.{ParametersOn}
use Rattle.dns_check.proofs.parameters.skip_parameters.Given as goal

abbrev pub invariant-parameters : goal.invariant-parameters
invariant-parameters l = record {
  on : ParametersOn l.fn.walk l.last l.walk;
  within : l.walk.index ≤ l.end;
}

abbrev pub decreases-parameters : goal.decreases-parameters
decreases-parameters l = l.end - l.walk.index
