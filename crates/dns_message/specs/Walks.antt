-- A walk over the records of a message.
use Rattle.std.specs.Prelude.{◌≡◌, ℕ, suc, ◌+◌, ◌-◌, ◌<◌, ◌≤◌, ◌⊎◌, List, [], ◌∷◌, ◌++◌, length, Option, Some, None, Err}
use Rattle.dns_message.specs.declared.{header.Header.Header, error.Section.Section, error.RecordError.RecordError}
use Rattle.dns_message.specs.{State.Walking, Headers.IsPlace}
use Rattle.dns_message.specs.Records.{Record, RecordsFrom}
use Rattle.dns_message.specs.{Steps.RecordSteps, Steps.OfRecord, Steps.SumOf, Stops.EndsAtRecord}
use Rattle.dns_message.specs.Items.{Item, IsItem, GivesRecord}

-- A record is there, it takes fewer steps than are left, and it or the error of its RDATA is given.
-- The walk goes on after it, with so many fewer.
pub record PassesRecord (s : Walking) (x : Item) (t : Walking) : Type 0 where
  pub section : Section
  pub index : ℕ
  pub place : IsPlace s.header s.passed section index
  pub left : s.passed < s.until
  pub is : GivesRecord s.message section index s.offset t.offset x
  pub steps : ℕ
  pub followed : RecordSteps s.message s.offset steps
  pub within : steps < s.left
  pub after : t ≡ record {
    message = s.message;
    header = s.header;
    offset = t.offset;
    passed = s.passed + 1;
    until = s.until;
    left = s.left - steps;
  }

-- none is there, or it takes too many, and the walk ends
pub record StopsAtRecord (s : Walking) (x : Item) (t : Walking) : Type 0 where
  pub section : Section
  pub index : ℕ
  pub place : IsPlace s.header s.passed section index
  pub error : RecordError
  pub given : x ≡ Err error
  pub left : s.passed < s.until
  pub why : EndsAtRecord s.message section index s.offset s.left error
  pub after : t ≡ record {
    message = s.message;
    header = s.header;
    offset = s.offset;
    passed = s.passed;
    until = s.passed;
    left = s.left;
  }

-- a call of `next`: nothing is left; or the next record, or why its RDATA is rejected, is given; or why the walk ends
abbrev pub NextItem : Walking → Option Item → Walking → Type 0
NextItem s None t = (s.until ≤ s.passed) × (t ≡ s)
NextItem s (Some x) t = PassesRecord s x t ⊎ StopsAtRecord s x t

pub record NextRecord (s : Walking) (x : Option Item) (t : Walking) : Type 0 where
  pub is : NextItem s x t

-- the item is for this record, which n records precede
pub record IsItemFor (m : List ℕ) (h : Header) (n : ℕ) (r : Record) (x : Item) : Type 0 where
  pub section : Section
  pub index : ℕ
  pub place : IsPlace h n section index
  pub item : IsItem m section index r x

-- an item for each record, in order; n records precede the first
abbrev pub AreItems : List ℕ → Header → ℕ → List Record → List Item → Type 0
AreItems m h n [] [] = Unit {0}
AreItems m h n (r ∷ rs) (x ∷ xs) = IsItemFor m h n r x × AreItems m h (suc n) rs xs
AreItems m h n rs xs = ⊥

-- the last item is an error: the record that n records precede would be at p, and is not, or it takes too many steps
pub record EndsWalk (m : List ℕ) (h : Header) (n p left : ℕ) (xs : List Item) : Type 0 where
  pub section : Section
  pub index : ℕ
  pub place : IsPlace h n section index
  pub error : RecordError
  pub last : xs ≡ Err error ∷ []
  pub why : EndsAtRecord m section index p left error

-- All that a walk gives from a state on: an item for each of the records that follow each other, and then nothing if
-- they are as many as were left, and else one error, since the next record is damaged or takes too many steps. All
-- records that are given take together no more than the walk may.
pub record WalkGives (s : Walking) (items : List Item) : Type 0 where
  pub records : List Record
  pub end : ℕ
  pub found : RecordsFrom s.message s.offset (length records) records end
  pub steps : ℕ
  pub followed : SumOf (OfRecord s.message) records steps
  pub few : steps ≤ s.left - 1
  pub given : List Item
  pub each : AreItems s.message s.header s.passed records given
  pub rest : List Item
  pub split : items ≡ given ++ rest
  pub ends : ((rest ≡ []) × (s.passed + length records ≡ s.until))
      ⊎ ((s.passed + length records < s.until)
      × EndsWalk s.message s.header (s.passed + length records) end (s.left - steps) rest)
