-- A step of a walk over records, which a caller keeps as numbers.
use Rattle.std.specs.Prelude.{◌≡◌, ℕ, ◌+◌, ◌<◌, ◌≤◌, ◌⊎◌, List, length, Bool, true, false, Option, Some, None, Result, Ok, Err}
use Rattle.dns_types.specs.{RecordTypes.record_type_of, declared.error.DecodeError.DecodeError}
use Rattle.dns_rdata.specs.Data.{HasValue}
use Rattle.dns_message.specs.declared.{header.Header.Header, error.Fault.Fault, progress.Progress.Progress}
use Rattle.dns_message.specs.declared.{reading.FixedFields.FixedFields, step.PassedRecord.PassedRecord}
use Rattle.dns_message.specs.{Headers.IsHeader, Headers.IsPlace, Headers.record_count, Readings.IsFound, Records.HasNoData, Items.IsRejected}
use Rattle.dns_names_wire.specs.Steps.{Leaves}
use Rattle.dns_message.specs.{Steps.DataSteps, Steps.RecordSteps, Steps.Takes, Stops.IsRecordStop, Starts.NoResume}

-- the record has no data; or it has RDATA of its type; or its RDATA is rejected, for this reason
abbrev pub TellsContent : List ℕ → FixedFields → Result Bool DecodeError → Type 0
TellsContent m f (Ok false) = HasNoData f.record_type f.class f.rdlength
TellsContent m f (Ok true) =
    (HasNoData f.record_type f.class f.rdlength → ⊥) × HasValue m f.rdata f.rdlength (record_type_of f.record_type)
TellsContent m f (Err reason) = IsRejected m f.record_type f.class f.rdlength f.rdata reason

-- the record has RDATA of its type, and the steps of the RDATA are taken off
pub record PassesRData (m : List ℕ) (f : FixedFields) (left after : ℕ) : Type 0 where
  pub told : TellsContent m f (Ok true)
  pub steps : Leaves (DataSteps m f.record_type f.class f.rdlength f.rdata) left after

-- a record of this section and index is encoded where the walk was, these are its fields and what is told of its RDATA,
-- and the walk is after it, with its steps taken off
pub record PassesTo (m : List ℕ) (old new : Progress) (x : PassedRecord) : Type 0 where
  pub header : Header
  pub is : IsHeader m header
  pub inside : old.offset ≤ length m
  pub few : old.until ≤ record_count header
  pub place : IsPlace header old.passed x.section x.index
  pub left : old.passed < old.until
  pub found : IsFound m old.offset x.fields
  pub told : TellsContent m x.fields x.content
  pub steps : Takes (RecordSteps m old.offset) old.left new.left
  pub after : new ≡ record { offset = x.fields.end; passed = old.passed + 1; until = old.until; left = new.left }

-- the walk ends where it was, for this fault
pub record StopsWith (m : List ℕ) (old new : Progress) (fault : Fault) : Type 0 where
  pub header : Header
  pub is : IsHeader m header
  pub inside : old.offset ≤ length m
  pub few : old.until ≤ record_count header
  pub left : old.passed < old.until
  pub why : IsRecordStop m old.offset old.left fault
  pub after : new ≡ record { offset = old.offset; passed = old.passed; until = old.passed; left = old.left }

-- A step of a walk: no record is left, or no walk can be there; or a record is passed; or the walk ends. The last two are
-- only where a walk can be (`Resumes`).
abbrev pub StepsTo : List ℕ → Progress → Option (Result PassedRecord Fault) → Progress → Type 0
StepsTo m old None new = (new ≡ old) × ((old.until ≤ old.passed) ⊎ NoResume m old)
StepsTo m old (Some (Ok x)) new = PassesTo m old new x
StepsTo m old (Some (Err fault)) new = StopsWith m old new fault
