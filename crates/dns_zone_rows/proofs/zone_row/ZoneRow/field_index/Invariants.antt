use Rattle.std.proofs.Common.{ℕ, ◌<◌}
use Rattle.dns_zone_rows.specs.RowTexts.{HasFieldAt}
use Rattle.dns_zone_rows.proofs.zone_row.ZoneRow.field_index.Given as goal

-- no field so far has the name
abbrev pub invariant-loop-index : goal.invariant-loop-index
invariant-loop-index l = (k : ℕ) → k < l.index → HasFieldAt l.fn.self l.fn.name k → ⊥
