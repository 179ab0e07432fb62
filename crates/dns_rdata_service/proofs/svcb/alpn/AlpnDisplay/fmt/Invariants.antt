use Rattle.std.proofs.Common.{take, flat_map, ◌++◌, codes}
use Rattle.std.specs.Fmt.{HasWritten, IsPlainFormatter}
use Rattle.dns_rdata_base.specs.Lossy.{lossy}
use Rattle.dns_rdata_service.proofs.svcb.alpn.AlpnDisplay.fmt.Given as goal

abbrev pub invariant-loop-name : goal.invariant-loop-name
invariant-loop-name g l =
    IsPlainFormatter l.fn.f → HasWritten g.W.Write.write_str_gives l.fn.f (flat_map (λ s. lossy s ++ codes ",") (take l.name-index l.name-items)) l.f
