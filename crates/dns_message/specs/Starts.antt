-- Where a walk over questions or records begins.
use Rattle.std.specs.Prelude.{◌≡◌, ℕ, ◌+◌, ◌-◌, ◌<◌, ◌≤◌, ◌⊎◌, List, length}
use Rattle.dns_message.specs.declared.{header.Header.Header, error.RecordError.RecordError, progress.Progress.Progress}
use Rattle.dns_message.specs.{State.Message, State.Asking, State.Walking}
use Rattle.dns_message.specs.{Headers.IsHeader, Headers.IsPlace, Headers.record_count}
use Rattle.dns_message.specs.{Questions.Question, Questions.QuestionsFrom, Records.Record, Records.RecordsFrom}
use Rattle.dns_message.specs.{Steps.OfQuestion, Steps.OfOwner, Steps.SumOf, Stops.EndsAtQuestion, Stops.EndsAtOwner}

-- `left` is one more than the steps that may be taken.

-- so many questions follow the header, and end at p; their names take so many steps
pub record AskedBefore (m : List ℕ) (n p count : ℕ) : Type 0 where
  pub questions : List Question
  pub from : QuestionsFrom m 12 n questions p
  pub followed : SumOf (OfQuestion m) questions count

-- they are fewer than are left
pub record AskedWithin (m : List ℕ) (n left after p : ℕ) : Type 0 where
  pub steps : ℕ
  pub before : AskedBefore m n p steps
  pub within : steps < left
  pub after_is : after ≡ left - steps

-- so many records follow each other from one offset to another; their owners take so many steps
pub record FoundBetween (m : List ℕ) (first n p count : ℕ) : Type 0 where
  pub records : List Record
  pub from : RecordsFrom m first n records p
  pub followed : SumOf (OfOwner m) records count

-- they are fewer than are left
pub record FoundWithin (m : List ℕ) (first n left after p : ℕ) : Type 0 where
  pub steps : ℕ
  pub between : FoundBetween m first n p steps
  pub within : steps < left
  pub after_is : after ≡ left - steps

-- The questions, and so many records after them, end at p. The names of the questions and the owners of the records
-- take so many steps.
pub record Precede (m : List ℕ) (h : Header) (n p count : ℕ) : Type 0 where
  pub first : ℕ
  pub of_questions : ℕ
  pub asked : AskedBefore m h.question_count first of_questions
  pub of_records : ℕ
  pub found : FoundBetween m first n p of_records
  pub sum : count ≡ of_questions + of_records

-- one of so many questions after the header is damaged, or its name takes too many steps
pub record BreaksAsked (m : List ℕ) (n left : ℕ) (e : RecordError) : Type 0 where
  pub few : e.index < n
  pub steps : ℕ
  pub before : AskedBefore m e.index e.offset steps
  pub within : steps < left
  pub why : EndsAtQuestion m e.index e.offset (left - steps) e

-- one of so many records from an offset on is damaged, or its owner takes too many steps
pub record BreaksFound (m : List ℕ) (h : Header) (first n left : ℕ) (e : RecordError) : Type 0 where
  pub passed : ℕ
  pub few : passed < n
  pub place : IsPlace h passed e.section e.index
  pub steps : ℕ
  pub before : FoundBetween m first passed e.offset steps
  pub within : steps < left
  pub why : EndsAtOwner m e.section e.index e.offset (left - steps) e

-- the same of one of so many records after the questions
pub record BreaksAfter (m : List ℕ) (h : Header) (n left : ℕ) (e : RecordError) : Type 0 where
  pub first : ℕ
  pub steps : ℕ
  pub asked : AskedBefore m h.question_count first steps
  pub within : steps < left
  pub breaks : BreaksFound m h first n (left - steps) e

-- the walk cannot begin: it ends at a question, or at one of so many records after the questions
abbrev pub Breaks : List ℕ → Header → ℕ → ℕ → RecordError → Type 0
Breaks m h n left e = BreaksAsked m h.question_count left e ⊎ BreaksAfter m h n left e

-- the same for the header and the limit of the message
pub record BreaksIn (m : Message) (count : Header → ℕ) (e : RecordError) : Type 0 where
  pub header : Header
  pub is : IsHeader m.octets header
  pub breaks : Breaks m.octets header (count header) (m.limit + 1) e

-- A walk over the records of a message with this header: so many are passed, and it goes on until so many are. The
-- steps of the questions and of the owners of the records before are taken off what is left.
pub record BeginsAt (m : List ℕ) (left : ℕ) (h : Header) (from until : ℕ) (s : Walking) : Type 0 where
  pub message : s.message ≡ m
  pub header : s.header ≡ h
  pub passed : s.passed ≡ from
  pub ends : s.until ≡ until
  pub steps : ℕ
  pub precede : Precede m h from s.offset steps
  pub within : steps < left
  pub left_is : s.left ≡ left - steps

-- the same for the header and the limit of the message
pub record Begins (m : Message) (from until : Header → ℕ) (s : Walking) : Type 0 where
  pub header : Header
  pub is : IsHeader m.octets header
  pub at : BeginsAt m.octets (m.limit + 1) header (from header) (until header) s

-- a walk over all questions of a message
pub record BeginsAsking (m : Message) (s : Asking) : Type 0 where
  pub header : Header
  pub is : IsHeader m.octets header
  pub state : s ≡ record {
    message = m.octets;
    offset = 12;
    passed = 0;
    until = header.question_count;
    left = m.limit + 1;
  }

-- a walk over the records of a message with this header that goes on from what was kept of it
pub record ResumesAt (m : List ℕ) (h : Header) (p : Progress) (s : Walking) : Type 0 where
  pub inside : p.offset ≤ length m
  pub few : p.until ≤ record_count h
  pub state : s ≡ record {
    message = m;
    header = h;
    offset = p.offset;
    passed = p.passed;
    until = p.until;
    left = p.left;
  }

-- the same for the header of the message
pub record Resumes (m : List ℕ) (p : Progress) (s : Walking) : Type 0 where
  pub header : Header
  pub is : IsHeader m header
  pub at : ResumesAt m header p s

-- no walk can be there: the offset is past the end of the message, or there are not so many records
abbrev pub NoResumeAt : List ℕ → Header → Progress → Type 0
NoResumeAt m h p = (length m < p.offset) ⊎ (record_count h < p.until)

-- the same for the header of the message
pub record NoResume (m : List ℕ) (p : Progress) : Type 0 where
  pub header : Header
  pub is : IsHeader m header
  pub why : NoResumeAt m header p
