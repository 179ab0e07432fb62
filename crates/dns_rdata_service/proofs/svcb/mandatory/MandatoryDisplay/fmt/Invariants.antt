use Rattle.std.proofs.Common.{take, flat_map, ◌++◌, codes}
use Rattle.std.specs.Fmt.{HasWritten, IsPlainFormatter}
use Rattle.dns_rdata_service.specs.SvcParamKey.{key_text}
use Rattle.dns_rdata_service.proofs.svcb.mandatory.MandatoryDisplay.fmt.Given as goal

abbrev pub invariant-loop-key : goal.invariant-loop-key
invariant-loop-key g l =
    IsPlainFormatter l.fn.f → HasWritten g.W.Write.write_str_gives l.fn.f (flat_map (λ k. key_text k ++ codes ",") (take l.key-index l.key-items)) l.f
