use Rattle.std.proofs.Common.{ℕ, List, false}
use Rattle.std.specs.{Borrow.Bor, Option.option_copied}
use Rattle.dns_zone_rows.specs.declared.zone_row.ZoneRest.TheVariants as rest
use Rattle.dns_zone_rows.proofs.RowLoop.{RowSoFar}
use Rattle.dns_zone_rows.proofs.near.put_near_row.Given as goal

-- the fields so far were taken, whatever the error for a further token says
abbrev pub invariant-loop-field : goal.invariant-loop-field
invariant-loop-field l =
    (surplus : Bor (List ℕ)) → RowSoFar (option_copied l.origin) l.fields (rest.Nothing surplus) l.field-index l.initial.tokens l.tokens l.octets.items
