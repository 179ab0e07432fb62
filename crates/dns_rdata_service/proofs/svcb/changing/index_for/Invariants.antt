use Rattle.std.proofs.Common.{ℕ, ◌-◌, ◌<◌, ◌≤◌, length, get_or}
use Rattle.dns_rdata_service.specs.{Parameters.Parameter, SVCB.number_of_parameter}
use Rattle.dns_rdata_service.proofs.svcb.changing.index_for.Given as goal

abbrev pub invariant-params : goal.invariant-params
invariant-params l = record {
  within : l.at ≤ length l.params;
  lesser : (k : ℕ) (d : Parameter) → k < l.at → number_of_parameter (get_or l.params k d) < l.number;
}

abbrev pub decreases-params : goal.decreases-params
decreases-params l = length l.params - l.at
