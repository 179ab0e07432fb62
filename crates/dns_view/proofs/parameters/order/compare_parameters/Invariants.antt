use Rattle.std.proofs.Common.{length, ◌-◌}
use Rattle.dns_view.proofs.ParameterOrder.{BothAt}
use Rattle.dns_view.proofs.parameters.order.compare_parameters.Given as goal

abbrev pub invariant-tlvs : goal.invariant-tlvs
invariant-tlvs l = BothAt l.a l.i l.b l.j

abbrev pub decreases-tlvs : goal.decreases-tlvs
decreases-tlvs l = length l.a - l.i
