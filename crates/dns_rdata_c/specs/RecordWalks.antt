-- What the calls that go over the records of a message tell.
use Rattle.std.specs.Prelude.{◌≡◌, ℕ, ◌+◌, ◌<◌, ◌≤◌, ◌⊎◌, List, length, Bool, false, Result, Ok}
use Rattle.dns_types.specs.{declared.error.DecodeError.DecodeError, RecordTypes.record_type_of}
use Rattle.dns_rdata.specs.Data.{HasValue}
use Rattle.dns_message.specs.declared.{header.Header.Header, error.Section.Section, error.RecordError.RecordError, progress.Progress.Progress, step.PassedRecord.PassedRecord}
use Rattle.dns_message.specs.declared.error.Section.TheVariants as sections
use Rattle.dns_message.specs.{State.Walking, Headers.IsHeader, Headers.HasHeader, Headers.IsPlace, Headers.record_count}
use Rattle.dns_message.specs.{Records.Record, Records.IsRecord, Records.NoRecord, Records.HasNoData, Items.IsRefusedAt}
use Rattle.dns_message.specs.{Starts.Begins, Starts.BreaksIn, Starts.NoResume}
use Rattle.dns_message.specs.{Steps.RecordSteps, Steps.Takes, Steps.Exceeds, declared.error.Fault.Fault}
use Rattle.dns_names_wire.specs.Steps.{NameSteps}
use Rattle.dns_rdata_c.specs.declared.records.{RecordsCursor.RecordsCursor, Record.Record as Told}
use Rattle.dns_rdata_c.specs.Status.{decode_status}

abbrev pub section_number : Section → ℕ
section_number sections.Question = 0
section_number sections.Answer = 1
section_number sections.Authority = 2
section_number sections.Additional = 3

-- where the walk is
abbrev pub progress : RecordsCursor → Progress
progress c = record { offset = c.next; passed = c.passed; until = c.until; left = c.left }

abbrev pub cursor : Progress → RecordsCursor
cursor p = record { next = p.offset; passed = p.passed; until = p.until; left = p.left }

-- the walk over a message with this header that is where the cursor says
abbrev pub walk_at : List ℕ → Header → RecordsCursor → Walking
walk_at m h c = record { message = m; header = h; offset = c.next; passed = c.passed; until = c.until; left = c.left }

abbrev pub data_number : Result Bool DecodeError → ℕ
data_number (Ok false) = 0
data_number content = 1

-- the numbers that are told of a record at p
abbrev pub told_of : ℕ → PassedRecord → Told
told_of p x = record {
  owner = p;
  rdata = x.fields.rdata;
  index = x.index;
  section = section_number x.section;
  ttl = x.fields.ttl;
  type_number = x.fields.record_type;
  class = x.fields.class;
  length = x.fields.rdlength;
  has_data = data_number x.content;
}

-- the cursor is before the first record of the message, and the walk may take 262,144 steps
pub record BeginsWalk (m : List ℕ) (c : RecordsCursor) : Type 0 where
  pub header : Header
  pub is : IsHeader m header
  pub begins : Begins (record { octets = m; limit = 262144 }) (λ h. 0) record_count (walk_at m header c)

-- the numbers are those of the record of this index in this section
pub record Tells (s : Section) (i : ℕ) (r : Record) (x : Told) : Type 0 where
  pub section : x.section ≡ section_number s
  pub index : x.index ≡ i
  pub owner : x.owner ≡ r.offset
  pub type : x.type_number ≡ r.type
  pub class : x.class ≡ r.class
  pub ttl : x.ttl ≡ r.ttl
  pub length : x.length ≡ r.rdlength
  pub rdata : x.rdata ≡ r.rdata

-- the record has RDATA that is right for its type, or is one of UPDATE that has no data
abbrev pub HasContent : List ℕ → Record → ℕ → Type 0
HasContent m r has_data = ((has_data ≡ 0) × HasNoData r.type r.class r.rdlength)
    ⊎ ((has_data ≡ 1) × (HasNoData r.type r.class r.rdlength → ⊥) × HasValue m r.rdata r.rdlength (record_type_of r.type))

-- the record has RDATA that is rejected, and the status is the number of the error that says why
pub record HasRejected (m : List ℕ) (r : Record) (status has_data : ℕ) : Type 0 where
  pub some : has_data ≡ 1
  pub other : HasNoData r.type r.class r.rdlength → ⊥
  pub error : DecodeError
  pub told : status ≡ decode_status error
  pub why : IsRefusedAt m r.rdata r.rdlength (record_type_of r.type) error

-- a walk over the records of the message can be where the cursor says, and some are left
pub record IsWithin (m : List ℕ) (c : RecordsCursor) : Type 0 where
  pub header : Header
  pub is : IsHeader m header
  pub inside : c.next ≤ length m
  pub few : c.until ≤ record_count header
  pub left : c.passed < c.until

-- the next record is there, P holds of it, its numbers are told, and the cursor is before the one after it
pub record Passes (m : List ℕ) (old new : RecordsCursor) (x : Told) (P : Record → Type 0) : Type 0 where
  pub header : Header
  pub is : IsHeader m header
  pub within : IsWithin m old
  pub section : Section
  pub index : ℕ
  pub place : IsPlace header old.passed section index
  pub entry : Record
  pub there : IsRecord m old.next entry new.next
  pub tells : Tells section index entry x
  pub holds : P entry
  pub passed : new.passed ≡ old.passed + 1
  pub until : new.until ≡ old.until
  pub left_is : Takes (RecordSteps m old.next) old.left new.left

-- The walk ends where it is: no record is left, and all else of the cursor is as before.
abbrev pub ended : RecordsCursor → RecordsCursor
ended c = record { next = c.next; passed = c.passed; until = c.passed; left = c.left }

-- no record is where the next one would be, and the walk ends
pub record EndsAtDamage (m : List ℕ) (old new : RecordsCursor) : Type 0 where
  pub within : IsWithin m old
  pub none : NoRecord m old.next
  pub ended : new ≡ ended old

-- the next record takes as many steps as are left or more, those of its owner alone or those of its
-- RDATA with them, and the walk ends
pub record EndsAtLimit (m : List ℕ) (old new : RecordsCursor) : Type 0 where
  pub within : IsWithin m old
  pub many : Exceeds (NameSteps m old.next) old.left ⊎ Exceeds (RecordSteps m old.next) old.left
  pub ended : new ≡ ended old

-- no record is left, or no walk over the message can be where the cursor says
abbrev pub IsAtEnd : List ℕ → RecordsCursor → Type 0
IsAtEnd m c = (c.until ≤ c.passed) ⊎ ((HasHeader m → ⊥) ⊎ NoResume m (progress c))

-- the walk cannot begin, since a question is damaged or the questions take too many steps; P holds of
-- the fault
pub record NeverBegins (m : List ℕ) (P : Fault → Type 0) : Type 0 where
  pub error : RecordError
  pub breaks : BreaksIn (record { octets = m; limit = 262144 }) (λ h. 0) error
  pub fault : P error.fault
