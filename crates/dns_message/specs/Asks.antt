-- A walk over the questions of a message.
use Rattle.std.specs.Prelude.{◌≡◌, ℕ, suc, ◌+◌, ◌<◌, ◌≤◌, ◌-◌, ◌⊎◌, List, [], ◌∷◌, ◌++◌, length}
use Rattle.std.specs.Prelude.{Option, Some, None, Result, Ok, Err}
use Rattle.dns_message.specs.declared.{question.QuestionRef.QuestionRef, error.RecordError.RecordError}
use Rattle.dns_message.specs.{State.Asking, Questions.Question, Questions.QuestionsFrom, Questions.ShowsQuestion}
use Rattle.dns_names_wire.specs.Steps.{NameSteps}
use Rattle.dns_message.specs.{Questions.GivesQuestion, Steps.OfQuestion, Steps.SumOf, Stops.EndsAtQuestion}

abbrev pub AskedItem : Type 0
AskedItem = Result QuestionRef RecordError

-- A question is there, its name takes fewer steps than are left, and it is given. The walk goes on
-- after it, with so many fewer.
pub record PassesQuestion (s : Asking) (x : AskedItem) (t : Asking) : Type 0 where
  pub question : QuestionRef
  pub given : x ≡ Ok question
  pub left : s.passed < s.until
  pub is : GivesQuestion s.message s.passed s.offset t.offset question
  pub steps : ℕ
  pub followed : NameSteps s.message s.offset steps
  pub within : steps < s.left
  pub after : t ≡ record {
    message = s.message;
    offset = t.offset;
    passed = s.passed + 1;
    until = s.until;
    left = s.left - steps;
  }

-- none is there, or its name takes too many, and the walk ends
pub record StopsAtQuestion (s : Asking) (x : AskedItem) (t : Asking) : Type 0 where
  pub error : RecordError
  pub given : x ≡ Err error
  pub left : s.passed < s.until
  pub why : EndsAtQuestion s.message s.passed s.offset s.left error
  pub after : t ≡ record {
    message = s.message;
    offset = s.offset;
    passed = s.passed;
    until = s.passed;
    left = s.left;
  }

-- a call of `next`: nothing is left, or the next question is given, or why the walk ends
abbrev pub NextAsked : Asking → Option AskedItem → Asking → Type 0
NextAsked s None t = (s.until ≤ s.passed) × (t ≡ s)
NextAsked s (Some x) t = PassesQuestion s x t ⊎ StopsAtQuestion s x t

pub record NextQuestion (s : Asking) (x : Option AskedItem) (t : Asking) : Type 0 where
  pub is : NextAsked s x t

-- these are the questions, the first of them of index i
abbrev pub ShowsAll : List ℕ → ℕ → List Question → List AskedItem → Type 0
ShowsAll m i [] [] = Unit {0}
ShowsAll m i (q ∷ qs) (Ok x ∷ xs) = ShowsQuestion m i q x × ShowsAll m (suc i) qs xs
ShowsAll m i qs xs = ⊥

-- the last item is an error: no question is at p, or its name takes too many steps
pub record EndsAsking (m : List ℕ) (i p left : ℕ) (xs : List AskedItem) : Type 0 where
  pub error : RecordError
  pub last : xs ≡ Err error ∷ []
  pub why : EndsAtQuestion m i p left error

-- All that a walk gives from a state on: questions that follow each other, in order, and then nothing if they are as
-- many as were left, and else one error, since the next question is damaged or its name takes too many steps. All
-- questions that are given take together no more than the walk may.
pub record AsksGive (s : Asking) (items : List AskedItem) : Type 0 where
  pub questions : List Question
  pub end : ℕ
  pub found : QuestionsFrom s.message s.offset (length questions) questions end
  pub steps : ℕ
  pub followed : SumOf (OfQuestion s.message) questions steps
  pub few : steps ≤ s.left - 1
  pub shown : List AskedItem
  pub shows : ShowsAll s.message s.passed questions shown
  pub rest : List AskedItem
  pub split : items ≡ shown ++ rest
  pub ends : ((rest ≡ []) × (s.passed + length questions ≡ s.until))
      ⊎ ((s.passed + length questions < s.until)
      × EndsAsking s.message (s.passed + length questions) end (s.left - steps) rest)
