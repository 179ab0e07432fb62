use Rattle.std.proofs.Common.{◌++◌, codes, decimal, flat_map}
use Rattle.std.specs.Fmt.{HasWritten, IsPlainFormatter}
use Rattle.dns_types.specs.RecordTypes.{type_text}
use Rattle.dns_rdata_policy.proofs.csync.CSYNCDisplay.fmt.Given as goal

abbrev pub invariant-loop-kind : goal.invariant-loop-kind
invariant-loop-kind g l =
    IsPlainFormatter l.fn.f → HasWritten g.W.Write.write_str_gives l.fn.f
    ((decimal l.serial ++ codes " " ++ decimal l.flags) ++ flat_map (λ kind. codes " " ++ type_text kind) l.yielded) l.f
