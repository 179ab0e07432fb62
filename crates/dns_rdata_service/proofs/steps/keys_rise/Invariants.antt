use Rattle.std.proofs.Common.{◌≡◌, drop, map}
use Rattle.dns_fields.specs.Tlvs.{rising}
use Rattle.dns_rdata_service.specs.Parameters.{parameter_of}
use Rattle.dns_check.proofs.ParameterLists.{rising_after}
use Rattle.dns_rdata_service.proofs.steps.keys_rise.Given as goal

abbrev pub invariant-loop-key : goal.invariant-loop-key
invariant-loop-key l = rising_after l.last (map parameter_of (drop l.key-index l.parameters)) ≡ rising (map parameter_of l.parameters)
