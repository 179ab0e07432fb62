-- The steps of RDATA are those of the row of its type.
use Rattle.std.proofs.Common.{◌≡◌, ℕ, List, inr, refl, arith, subst}
use Rattle.dns_types.specs.declared.record_type.RecordType.{RecordType}
use Rattle.dns_names_wire.specs.State.{Reading}
use Rattle.dns_rows.specs.declared.row.Part.{Part}
use Rattle.dns_rows.specs.Table.{TypeRow, fields as row, unread, formatless, table}
use Rattle.dns_names_wire.specs.Steps.{Leaves}
use Rattle.dns_check.specs.RowSteps.{RowSteps}
use Rattle.dns_rdata.specs.{Data.parts_of, Data.IsNever, Data.IsNeverRead, Steps.RDataSteps}

none_of : (r : TypeRow) (n : ℕ) (old : Reading) (before : ℕ) → IsNever r → Leaves (RowSteps (parts_of r) n old) before before
none_of (row parts) n old before h = absurd h
none_of unread n old before h = (0, inr (omega arith, refl), omega arith)
none_of formatless n old before h = absurd h

pub never_followed : (t : RecordType) (n : ℕ) (old : Reading) (before : ℕ) → IsNeverRead t → Leaves (RDataSteps t n old) before before
never_followed t n old before h = none_of (table t) n old before h

pub row_followed : (t : RecordType) (parts : List Part) (n : ℕ) (old : Reading) (before after : ℕ) → parts ≡ parts_of (table t)
    → Leaves (RowSteps parts n old) before after → Leaves (RDataSteps t n old) before after
row_followed t parts n old before after e l = subst (λ (x : List Part). Leaves (RowSteps x n old) before after) e l
