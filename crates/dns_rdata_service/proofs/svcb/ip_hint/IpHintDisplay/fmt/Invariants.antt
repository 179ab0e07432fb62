use Rattle.std.proofs.Common.{◌≡◌, ℕ, List, take, Some}
use Rattle.std.specs.Fmt.{HasWritten, IsPlainFormatter}
use Rattle.dns_rdata_service.specs.Hints.{each_text}
use Rattle.dns_rdata_service.proofs.svcb.ip_hint.IpHintDisplay.fmt.Given as goal

abbrev pub invariant-loop-item : goal.invariant-loop-item
invariant-loop-item g l =
    IsPlainFormatter l.fn.f → (t : List ℕ) → each_text g.T.Display.output (take l.item-index l.item-items) ≡ Some t
    → HasWritten g.W.Write.write_str_gives l.fn.f t l.f
