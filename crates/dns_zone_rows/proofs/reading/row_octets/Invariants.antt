use Rattle.std.specs.Option.{option_copied}
use Rattle.dns_zone_rows.proofs.RowLoop.{RowSoFar}
use Rattle.dns_zone_rows.proofs.reading.row_octets.Given as goal

-- the fields so far were taken
abbrev pub invariant-loop-field : goal.invariant-loop-field
invariant-loop-field l = RowSoFar (option_copied l.origin) l.zone_row.fields.now l.zone_row.rest l.field-index l.fn.tokens l.tokens l.octets.items
