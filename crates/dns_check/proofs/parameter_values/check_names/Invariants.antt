use Rattle.std.proofs.Common.{length}
use Rattle.dns_check.proofs.ValueForms.{LeftNames}
use Rattle.dns_check.proofs.parameter_values.check_names.Given as goal

abbrev pub invariant-names : goal.invariant-names
invariant-names l = LeftNames l.octets l.rest

abbrev pub decreases-names : goal.decreases-names
decreases-names l = length l.rest
