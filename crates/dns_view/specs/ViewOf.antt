-- What a view is of.
use Rattle.std.specs.Prelude.{◌≡◌, ℕ, List}
use Rattle.dns_names_wire.specs.State.{Reading}
use Rattle.dns_rows.specs.declared.row.Part.{Part}
use Rattle.dns_view.specs.declared.row.view.RowView.{RowView}
use Rattle.dns_check.specs.Checks.{FillsRow}

-- the view of n octets at the index of a decoder, which fields of the row fill
pub record IsViewOf (old : Reading) (n : ℕ) (parts : List Part) (r : RowView) : Type 0 where
  pub message : r.message.now ≡ old.message
  pub offset : r.offset ≡ old.index
  pub len : r.len ≡ n
  pub row : r.row.now ≡ parts
  pub fills : FillsRow r.message.now r.offset r.len r.row.now
