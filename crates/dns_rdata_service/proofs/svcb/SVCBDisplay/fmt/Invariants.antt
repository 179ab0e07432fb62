use Rattle.std.proofs.Common.{take, flat_map, ◌++◌, codes, decimal}
use Rattle.std.specs.Fmt.{HasWritten, IsPlainFormatter}
use Rattle.dns_labels.specs.Text.{name_text}
use Rattle.dns_rdata_service.specs.SVCB.{parameter_text}
use Rattle.dns_rdata_service.proofs.svcb.SVCBDisplay.fmt.Given as goal

abbrev pub invariant-loop-key : goal.invariant-loop-key
invariant-loop-key g l =
    IsPlainFormatter l.fn.f → HasWritten g.W.Write.write_str_gives l.fn.f
    ((decimal l.self.svc_priority ++ (codes " " ++ name_text l.self.target_name)) ++ flat_map parameter_text (take l.key-index l.key-items)) l.f
