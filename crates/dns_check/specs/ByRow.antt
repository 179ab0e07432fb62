-- Records that are read by the rows of their types.
use Rattle.std.specs.Prelude.{◌≡◌, ◌⊎◌, ℕ, ◌+◌, ◌<◌, ◌&&◌, Bool, true, false, List, [], ◌∷◌, Result, Ok, Err}
use Rattle.dns_types.specs.declared.error.DecodeError.{DecodeError}
use Rattle.dns_fields.specs.declared.Kind.{Kind}
use Rattle.dns_fields.specs.declared.Kind.TheVariants.{Number, Octets, Name, CharacterString}
use Rattle.dns_fields.specs.{Fields.Values, Fields.Stands, Octets.AreOctets}
use Rattle.dns_names_wire.specs.{State.Reading, Facts.Facts}
use Rattle.dns_names_wire.specs.Terms.{IsLong, Refused, Region, StaysBehind, TookRegion, UnlessMemory}
use Rattle.dns_rows.specs.{declared.row.Part.Part, declared.row.Rule.Rule, Table.kinds_of, Rules.MeetsRow}
use Rattle.dns_rows.specs.declared.row.Rule.TheVariants as rules
use Rattle.dns_check.specs.Rows.{RowError, RowReached, RefusedRow, TookRow, asked_length, is_row}

-- no fields of the row are there, of n octets of RDATA, of which the last one ends where it must
pub record NoneTaken (row : List Part) (n : ℕ) (old : Reading) : Type 0 where
  pub none : (vs : Values (kinds_of row)) (q : ℕ) → Stands old.message old.index (kinds_of row) vs q → MeetsRow row vs
      → RowReached row (old.index + n) vs q → ⊥

-- the row is gone over, and its fields are there
pub record RowThere (row : List Part) (n : ℕ) (old new : Reading) : Type 0 where
  pub octets : AreOctets old.message
  pub short : n < 65536
  pub took : TookRow row n old new

-- the row rejects the n octets of RDATA
pub record RowRejected (row : List Part) (n : ℕ) (old : Reading) : Type 0 where
  pub error : DecodeError
  pub new : Reading
  pub refused : RefusedRow row n old error new

-- Takes fields of the row exactly if they are there. Where they end with the RDATA, they fill it; where they end elsewhere, no
-- fields do. Which error is returned is left open, but for `Memory`.
abbrev pub ReadsRow : {T : Type 0} → Facts T → ℕ → Result T DecodeError → Reading → Reading → Type 0
ReadsRow f n (Ok x) old new = TookRegion old n (kinds_of f.row) (MeetsRow f.row) (f.fields x) new
ReadsRow f n (Err e) old new = StaysBehind old new × UnlessMemory e (NoneTaken f.row n old ⊎ RowRejected f.row n old)

-- the n octets are these fields, and the decoder is behind them
pub record TookWhole (old : Reading) (n : ℕ) (row : List Part) (vs : Values (kinds_of row)) (new : Reading) : Type 0 where
  pub message : new.message ≡ old.message
  pub index : new.index ≡ old.index + n
  pub region : Region old.message old.index n (kinds_of row) (MeetsRow row) vs

-- the field says itself where it ends, and why it is rejected does not depend on RDLENGTH
abbrev pub ends_alone : Kind → Rule → Bool
ends_alone (Number w) r = true
ends_alone (Octets w) r = true
ends_alone Name r = true
ends_alone CharacterString rules.Tag = false
ends_alone CharacterString r = true
ends_alone k r = false

abbrev pub all_alone : List Part → Bool
all_alone [] = true
all_alone (p ∷ row) = ends_alone p.kind p.rule && all_alone row

-- a row that can be checked and does not need RDLENGTH
pub record IsAlone (row : List Part) : Type 0 where
  pub checked : is_row row ≡ true
  pub asked : asked_length row ≡ 0
  pub alone : all_alone row ≡ true
  pub long : IsLong (kinds_of row)

-- why a record is rejected that is read without an RDLENGTH: by its row, whatever RDLENGTH is; and no fields are there
abbrev pub RecordRefuses : {T : Type 0} → Facts T → Reading → DecodeError → Reading → Type 0
RecordRefuses f old e new = ((n : ℕ) → UnlessMemory e (RowError f.row n old e new))
    × Refused e old (kinds_of f.row) (λ vs _. MeetsRow f.row vs) new
