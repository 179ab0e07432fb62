use Rattle.std.proofs.Common.{◌≡◌, drop}
use Rattle.dns_rdata_service.specs.Steps.{each_fits}
use Rattle.dns_rdata_service.proofs.steps.values_fit.Given as goal

abbrev pub invariant-loop-value : goal.invariant-loop-value
invariant-loop-value l = each_fits (drop l.value-index l.parameters) ≡ each_fits l.parameters
