use Rattle.std.proofs.Common.{take, flat_map, ◌++◌, codes}
use Rattle.std.specs.Fmt.{HasWritten, IsPlainFormatter}
use Rattle.dns_rdata_zone.proofs.lists.FurtherDisplay.fmt.Given as goal

abbrev pub invariant-loop-item : goal.invariant-loop-item
invariant-loop-item g l =
    IsPlainFormatter l.fn.f
    → HasWritten g.W.Write.write_str_gives l.fn.f (flat_map (λ y. codes "," ++ g.T.ListItem.item_text y) (take l.item-index l.items)) l.f
