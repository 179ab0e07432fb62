use Rattle.std.proofs.Common.{take, flat_map, ◌++◌, codes, decimal}
use Rattle.std.specs.Fmt.{HasWritten, IsPlainFormatter}
use Rattle.dns_rdata_zone.specs.{Names.zone_name, Parameters.zone_parameter}
use Rattle.dns_rdata_zone.proofs.services.ServiceTextDisplay.fmt.Given as goal

abbrev pub invariant-loop-parameter : goal.invariant-loop-parameter
invariant-loop-parameter g l = IsPlainFormatter l.fn.f → HasWritten g.W.Write.write_str_gives l.fn.f
    ((decimal l.self.0.now.svc_priority ++ codes " " ++ zone_name l.self.0.now.target_name)
    ++ flat_map (λ p. codes " " ++ zone_parameter p) (take l.parameter-index l.parameter-items)) l.f
