use Rattle.std.proofs.Common.{◌≡◌, drop, map}
use Rattle.dns_rdata_service.specs.Parameters.{own_parameter}
use Rattle.dns_rdata_service.proofs.SvcbFronts.{rest_cmp}
use Rattle.dns_rdata_service.proofs.order.parameters_front.Given as goal

abbrev pub invariant-loop-at : goal.invariant-loop-at
invariant-loop-at l = record {
  order : rest_cmp l.a l.b 0 ≡ rest_cmp l.a l.b l.at;
  alike : map own_parameter (drop l.at l.a) ≡ map own_parameter (drop l.at l.b) → map own_parameter l.a ≡ map own_parameter l.b;
}
