use Rattle.std.proofs.Common.{take}
use Rattle.std.specs.Fmt.{HasWritten, IsPlainFormatter}
use Rattle.dns_rdata_options.specs.OptText.{hex_text}
use Rattle.dns_rdata_options.proofs.opt.text.HexDigitsDisplay.fmt.Given as goal

-- the digits of the octets so far are written
abbrev pub invariant-loop-octet : goal.invariant-loop-octet
invariant-loop-octet g l =
    IsPlainFormatter l.fn.f → HasWritten g.W.Write.write_str_gives l.fn.f (hex_text (take l.octet-index l.octets)) l.f
