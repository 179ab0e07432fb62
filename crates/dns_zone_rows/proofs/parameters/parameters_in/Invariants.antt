use Rattle.std.proofs.Common.{length, map}
use Rattle.dns_zone_rows.specs.ParameterViews.{parameter_value}
use Rattle.dns_zone_rows.proofs.ParameterSteps.{ParametersSoFar}
use Rattle.dns_zone_rows.proofs.parameters.parameters_in.Given as goal

abbrev pub invariant-tokens : goal.invariant-tokens
invariant-tokens l = ParametersSoFar (map parameter_value l.parameters.items) l.fn.tokens l.tokens

abbrev pub decreases-tokens : goal.decreases-tokens
decreases-tokens l = length l.tokens.text
