use Rattle.std.proofs.Common.{◌-◌, ◌≡◌, ◌≤◌, length, drop}
use Rattle.std.specs.Cmp.Lexicographic.{pointwise}
use Rattle.dns_rdata_service.specs.OwnKeys.{parameter_eq}
use Rattle.dns_rdata_service.proofs.svcb.same_parameters.Given as goal

abbrev pub invariant-parameters : goal.invariant-parameters
invariant-parameters l =
    (l.at ≤ length l.a) × (length l.a ≡ length l.b) × (pointwise parameter_eq (drop l.at l.a) (drop l.at l.b) ≡ pointwise parameter_eq l.a l.b)

abbrev pub decreases-parameters : goal.decreases-parameters
decreases-parameters l = length l.a - l.at
