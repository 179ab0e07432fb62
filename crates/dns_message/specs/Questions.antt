-- Questions (RFC 1035, 4.1.2).
use Rattle.std.specs.Prelude.{◌≡◌, ℕ, List, [], ◌∷◌, length}
use Rattle.dns_types.specs.RecordTypes.{record_type_of}
use Rattle.dns_fields.specs.{Labels.DomainName, Fields.Stands}
use Rattle.dns_fields.specs.declared.Kind.{TheVariants.Number, TheVariants.Name}
use Rattle.dns_message.specs.Entries.{Follow, NoName, EndsAfterName}
use Rattle.dns_message.specs.declared.error.Fault.{Fault}
use Rattle.dns_message.specs.declared.question.QuestionRef.{QuestionRef}
use Rattle.dns_message.specs.declared.error.Fault.TheVariants as faults

-- a question, and the offset where it starts
pub record Question : Type 0 where
  pub offset : ℕ
  pub name : DomainName
  pub type : ℕ
  pub class : ℕ

-- the question is encoded from the offset to the end: a name, a type and a class
pub record IsQuestion (message : List ℕ) (offset : ℕ) (q : Question) (end : ℕ) : Type 0 where
  pub starts : q.offset ≡ offset
  pub fields : Stands message offset (Name ∷ Number 2 ∷ Number 2 ∷ []) (q.name, (q.type, (q.class, tt))) end

-- no question is encoded at the offset
pub record NoQuestion (message : List ℕ) (offset : ℕ) : Type 0 where
  pub none : (q : Question) (end : ℕ) → IsQuestion message offset q end → ⊥

-- so many questions from one offset to another
pub record QuestionsFrom (message : List ℕ) (offset count : ℕ) (questions : List Question) (end : ℕ) : Type 0 where
  pub many : length questions ≡ count
  pub follow : Follow (IsQuestion message) offset questions end

-- why no question is encoded at the offset
abbrev pub IsQuestionFault : List ℕ → ℕ → Fault → Type 0
IsQuestionFault message offset faults.Name = NoName message offset
IsQuestionFault message offset faults.Truncated = EndsAfterName message offset 4
IsQuestionFault message offset fault = ⊥

-- the question of this index, as it is lent
pub record ShowsQuestion (m : List ℕ) (i : ℕ) (q : Question) (x : QuestionRef) : Type 0 where
  pub index : x.index ≡ i
  pub offset : x.offset ≡ q.offset
  pub message : x.name.message.now ≡ m
  pub name : x.name.offset ≡ q.offset
  pub type : x.query_type ≡ record_type_of q.type
  pub class : x.class ≡ q.class

-- a question is encoded from p to the end, and this is it
pub record GivesQuestion (m : List ℕ) (i p end : ℕ) (x : QuestionRef) : Type 0 where
  pub question : Question
  pub is : IsQuestion m p question end
  pub shows : ShowsQuestion m i question x
