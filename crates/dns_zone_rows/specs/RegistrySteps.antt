-- How the code looks for a type's zone row.
use Rattle.std.specs.Prelude.{ℕ, ◌==◌, if◌then◌else◌, List, [], ◌∷◌, Option, Some, None}
use Rattle.dns_zone_rows.specs.{Registry.Registered, declared.registry.NumberedRow.NumberedRow, declared.zone_row.ZoneRow.ZoneRow}

-- the first zone row with this number
abbrev pub first_row : List NumberedRow → ℕ → Option ZoneRow
first_row [] n = None
first_row (first ∷ others) n = if first.number == n then Some first.zone_row else first_row others n

-- the number, and what is taken of the zone row
abbrev pub numbered : {V : Type 0} → (ZoneRow → V) → NumberedRow → ℕ × V
numbered view r = (r.number, view r.zone_row)

abbrev pub listed_as : {V : Type 0} → (Registered → V) → Registered → ℕ × V
listed_as view t = (t.number, view t)
