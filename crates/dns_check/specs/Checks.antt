-- RDATA that a row fills, and why it is rejected.
use Rattle.std.specs.Prelude.{◌≡◌, ◌≢◌, ℕ, ◌+◌, ◌-◌, ◌<◌, ◌≤◌, ◌⊎◌, List, length, Result}
use Rattle.dns_types.specs.declared.error.DecodeError.{DecodeError}
use Rattle.dns_types.specs.declared.error.DecodeError.TheVariants as decode
use Rattle.dns_fields.specs.Octets.{AreOctets}
use Rattle.dns_names_wire.specs.State.{Reading}
use Rattle.dns_rows.specs.declared.row.Part.{Part}
use Rattle.dns_check.specs.Rows.{HasRow, RowError, SkipsRow}

-- fields of the row fill the n octets from p
pub record FillsRow (m : List ℕ) (p n : ℕ) (row : List Part) : Type 0 where
  pub octets : AreOctets m
  pub short : n < 65536
  pub within : p + n ≤ length m
  pub has : HasRow m p row (p + n)

-- no fields do
pub record NoFill (m : List ℕ) (p n : ℕ) (row : List Part) : Type 0 where
  pub none : FillsRow m p n row → ⊥

-- what the fields give by themselves for n octets, before the octets that were taken are counted
pub record RowStopped (row : List Part) (n : ℕ) (old new : Reading) : Type 0 where
  pub own : Result (Unit {0}) DecodeError
  pub is_own : SkipsRow row n own old new

-- another number of octets was taken than n, with both numbers; or just n were taken, and a field is rejected
abbrev pub IsRowError : List Part → ℕ → Reading → DecodeError → Reading → Type 0
IsRowError row n old e new =
    ((new.index ≢ old.index + n) × (e ≡ decode.IncorrectRDataLengthRead (new.index - old.index) n)
    × RowStopped row n old new)
    ⊎ ((new.index ≡ old.index + n) × RowError row n old e new)
