use Rattle.std.proofs.Common.{take}
use Rattle.std.specs.Fmt.{HasWritten, IsPlainFormatter}
use Rattle.dns_rdata_zone.specs.Strings.{spaced}
use Rattle.dns_rdata_zone.proofs.strings.SpacedDisplay.fmt.Given as goal

abbrev pub invariant-loop-string : goal.invariant-loop-string
invariant-loop-string g l = IsPlainFormatter l.fn.f → HasWritten g.W.Write.write_str_gives l.fn.f (spaced (take l.string-index l.strings)) l.f
