use Rattle.std.proofs.Common.{take, flat_map}
use Rattle.std.specs.Fmt.{HasWritten, IsPlainFormatter}
use Rattle.dns_rdata_options.specs.OptText.{further_text}
use Rattle.dns_rdata_options.proofs.opt.text.FurtherDisplay.fmt.Given as goal

-- the options so far are written
abbrev pub invariant-loop-pair : goal.invariant-loop-pair
invariant-loop-pair g l =
    IsPlainFormatter l.fn.f
    → HasWritten g.W.Write.write_str_gives l.fn.f (flat_map further_text (take l.pair-index l.pairs)) l.f
