-- Why a walk ends at a question or a record: it is damaged, or too many steps were taken.
use Rattle.std.specs.Prelude.{◌≡◌, ℕ, ◌⊎◌, List}
use Rattle.dns_names_wire.specs.Steps.{NameSteps}
use Rattle.dns_message.specs.declared.{error.Fault.Fault, error.Section.Section, error.RecordError.RecordError}
use Rattle.dns_message.specs.declared.error.Fault.TheVariants as faults
use Rattle.dns_message.specs.declared.error.Section.TheVariants as sections
use Rattle.dns_message.specs.{Questions.NoQuestion, Questions.IsQuestionFault, Records.NoRecord, Records.IsRecordFault}
use Rattle.dns_message.specs.Steps.{RecordSteps, Within, Exceeds}

-- `left` is one more than the steps that may still be taken; a step is a label or a compression pointer.

-- at the question that would start at p
abbrev pub IsQuestionStop : List ℕ → ℕ → ℕ → Fault → Type 0
IsQuestionStop m p left faults.Limit = Exceeds (NameSteps m p) left
IsQuestionStop m p left fault = NoQuestion m p × IsQuestionFault m p fault × Within (NameSteps m p) left

-- at the record that would start at p, before its RDATA is looked at
abbrev pub IsOwnerStop : List ℕ → ℕ → ℕ → Fault → Type 0
IsOwnerStop m p left faults.Limit = Exceeds (NameSteps m p) left
IsOwnerStop m p left fault = NoRecord m p × IsRecordFault m p fault × Within (NameSteps m p) left

-- the same, or its owner and its RDATA together take too many
abbrev pub IsRecordStop : List ℕ → ℕ → ℕ → Fault → Type 0
IsRecordStop m p left fault = IsOwnerStop m p left fault
    ⊎ ((fault ≡ faults.Limit) × Exceeds (RecordSteps m p) left)

-- the error names the question of this index, which would start at p, and why the walk ends there
pub record EndsAtQuestion (m : List ℕ) (i p left : ℕ) (e : RecordError) : Type 0 where
  pub section : e.section ≡ sections.Question
  pub index : e.index ≡ i
  pub offset : e.offset ≡ p
  pub why : IsQuestionStop m p left e.fault

-- the error names the record of this section and index, which would start at p, and why the walk ends there
pub record EndsAtRecord (m : List ℕ) (s : Section) (i p left : ℕ) (e : RecordError) : Type 0 where
  pub section : e.section ≡ s
  pub index : e.index ≡ i
  pub offset : e.offset ≡ p
  pub why : IsRecordStop m p left e.fault

-- the same if the RDATA of records is not looked at
pub record EndsAtOwner (m : List ℕ) (s : Section) (i p left : ℕ) (e : RecordError) : Type 0 where
  pub section : e.section ≡ s
  pub index : e.index ≡ i
  pub offset : e.offset ≡ p
  pub why : IsOwnerStop m p left e.fault
