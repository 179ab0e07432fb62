use Rattle.std.proofs.Common.{◌≡◌, drop, map}
use Rattle.std.specs.Cmp.Lexicographic.{slice_cmp}
use Rattle.dns_fields.specs.Equal.{key_cmp, parameter_keys}
use Rattle.dns_rdata_service.specs.Parameters.{own_parameter}
use Rattle.dns_rdata_service.proofs.field_order.parameters_cmp.Given as goal

abbrev pub invariant-loop-i : goal.invariant-loop-i
invariant-loop-i l =
    slice_cmp key_cmp (parameter_keys (map own_parameter (drop l.i l.a))) (parameter_keys (map own_parameter (drop l.i l.b)))
    ≡ slice_cmp key_cmp (parameter_keys (map own_parameter l.a)) (parameter_keys (map own_parameter l.b))
