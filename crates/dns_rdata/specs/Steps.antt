-- How many steps are taken by going over RDATA.
use Rattle.std.specs.Prelude.{ℕ}
use Rattle.dns_types.specs.declared.record_type.RecordType.{RecordType}
use Rattle.dns_names_wire.specs.State.{Reading}
use Rattle.dns_rows.specs.Table.{table}
use Rattle.dns_check.specs.RowSteps.{RowSteps}
use Rattle.dns_rdata.specs.Data.{parts_of}

-- of n octets of RDATA of this type: those of its row; a type that is never read has no fields
abbrev pub RDataSteps : RecordType → ℕ → Reading → ℕ → Type 0
RDataSteps t n old count = RowSteps (parts_of (table t)) n old count
