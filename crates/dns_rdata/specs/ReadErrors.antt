-- Why RDATA is rejected. An error is defined once, by the row of the type: `RowError` of `dns_check` says which error comes,
-- with which numbers, and where the decoder is then.
use Rattle.std.specs.Prelude.{◌≡◌, ℕ, Result, Err}
use Rattle.dns_types.specs.{declared.error.DecodeError.DecodeError, declared.record_type.RecordType.RecordType, RecordTypes.number_of}
use Rattle.dns_types.specs.declared.error.DecodeError.TheVariants as decode
use Rattle.dns_rows.specs.Table.{table}
use Rattle.dns_names_wire.specs.State.{Reading}
use Rattle.dns_check.specs.{Checks.IsRowError, Rows.SkipsRow}
use Rattle.dns_rdata.specs.Data.{parts_of, IsNeverRead}

-- the type is never read: the error has its number, and nothing is taken
abbrev pub IsUnread : RecordType → ℕ → Reading → Reading → Type 0
IsUnread t number old new = IsNeverRead t × (number ≡ number_of t) × (new ≡ old)

-- What the fields of the type give for n octets of RDATA by themselves, before the octets that they took are counted: they
-- are there, each as its rule asks, or the first one that is not gives its error.
abbrev pub OwnResult : RecordType → ℕ → Reading → Reading → Result (Unit {0}) DecodeError → Type 0
OwnResult t n old new (Err (decode.UnknownRecordTypeValue number)) = IsUnread t number old new
OwnResult t n old new r = (IsNeverRead t → ⊥) × SkipsRow (parts_of (table t)) n r old new

-- An error of reading n octets as RDATA of the type, and where the decoder is then:
-- out of memory, of which nothing is said; a type that is never read, with its number; and any other error is that of the row
-- of the type: another number of octets was taken than n, or the first field that is rejected gives its error.
abbrev pub IsReadError : RecordType → ℕ → Reading → Reading → DecodeError → Type 0
IsReadError t n old new decode.Memory = Unit {0}
IsReadError t n old new (decode.UnknownRecordTypeValue number) = IsUnread t number old new
IsReadError t n old new e = (IsNeverRead t → ⊥) × IsRowError (parts_of (table t)) n old e new
