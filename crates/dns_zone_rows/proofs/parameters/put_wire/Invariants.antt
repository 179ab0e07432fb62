use Rattle.std.proofs.Common.{◌≡◌, ◌++◌, map, take}
use Rattle.dns_fields.specs.Tlvs.{tlvs}
use Rattle.dns_zone_rows.specs.ParameterViews.{parameter_value}
use Rattle.dns_zone_rows.proofs.parameters.put_wire.Given as goal

-- the tlvs so far
abbrev pub invariant-loop-parameter : goal.invariant-loop-parameter
invariant-loop-parameter l = l.octets.items ≡ l.fn.octets.items ++ tlvs (map parameter_value (take l.parameter-index l.parameters))
