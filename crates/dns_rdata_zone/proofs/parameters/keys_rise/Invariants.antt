use Rattle.std.proofs.Common.{◌≡◌, drop, map}
use Rattle.dns_rdata_service.specs.SvcParamKey.{key_number}
use Rattle.dns_rdata_zone.specs.Parameters.{rises_from}
use Rattle.dns_rdata_zone.proofs.parameters.keys_rise.Given as goal

abbrev pub invariant-loop-key : goal.invariant-loop-key
invariant-loop-key l = rises_from l.last (map key_number (drop l.key-index l.keys)) ≡ rises_from 0 (map key_number l.keys)
