use Rattle.std.proofs.Common.{◌≡◌, ℕ, List, ◌++◌}
use Rattle.std.specs.{Prelude.flat_map, Fmt.HasWritten, Fmt.IsPlainFormatter}
use Rattle.dns_rdata_zone.specs.Names.{zone_label}
use Rattle.dns_rdata_zone.proofs.names.ZoneLabelsDisplay.fmt.Given as goal

-- the labels so far were written, and those that the iterator has left are the others
abbrev pub invariant-loop-label : goal.invariant-loop-label
invariant-loop-label g l = IsPlainFormatter l.fn.f → (text : List ℕ) × HasWritten g.W.Write.write_str_gives l.fn.f text l.f
    × (text ++ flat_map zone_label l.label-iterator ≡ flat_map zone_label l.fn.self.0.now.labels)
