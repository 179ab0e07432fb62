use Rattle.std.proofs.Common.{length, ◌-◌}
use Rattle.dns_view.proofs.PutParameters.{NoPortYet}
use Rattle.dns_view.proofs.parameters.put.find_surplus.Given as goal

abbrev pub invariant-tlvs : goal.invariant-tlvs
invariant-tlvs l = NoPortYet l.octets l.offset

abbrev pub decreases-tlvs : goal.decreases-tlvs
decreases-tlvs l = length l.octets - l.offset
