use Rattle.std.proofs.Common.{take, flat_map}
use Rattle.std.specs.Fmt.{HasWritten, IsPlainFormatter}
use Rattle.dns_rdata_base.specs.Lossy.{lossy}
use Rattle.dns_rdata_base.proofs.txt.TXTDisplay.fmt.Given as goal

abbrev pub invariant-loop-string : goal.invariant-loop-string
invariant-loop-string g l =
    IsPlainFormatter l.fn.f → HasWritten g.W.Write.write_str_gives l.fn.f (flat_map lossy (take l.string-index l.string-items)) l.f
