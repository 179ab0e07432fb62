-- What a cursor over canonical octets still gives, and what it counts.
use Rattle.std.specs.Prelude.{◌≡◌, ℕ, ◌+◌, ◌-◌, ◌*◌, ◌<◌, ◌≤◌, ◌++◌, length, drop, Option, Some, None, List, []}
use Rattle.dns_canonical.specs.{Runs.Shares, Steps.LeftAt}

-- What a cursor meets in RDATA: the octets that are left at each position, how many windows and how many options are
-- not begun there, and how many options there are; the positions that it reaches, and what it keeps there.
pub record Course (Kept : Type 0) : Type 1 where
  pub left : LeftAt
  pub windows : ℕ → ℕ → ℕ
  pub options : ℕ → ℕ → ℕ → ℕ
  pub all_options : ℕ
  pub at : ℕ → ℕ → ℕ → Type 0
  pub keeps : ℕ → ℕ → Option Kept → Type 0

-- where there are no data, there is nothing
abbrev pub course_of : {T Kept : Type 0} → (T → Course Kept) → Option T → Course Kept
course_of course None = record {
  left = λ n i j. [];
  windows = λ n i. 0;
  options = λ n i j. 0;
  all_options = 0;
  at = λ n i j. Unit {0};
  keeps = λ n i kept. Unit {0};
}
course_of course (Some v) = course v

-- What is left: the octets, how many were taken; how often two options were compared, how many are not begun and how
-- many there are; how often a set of types was gone over, and how many windows of it are not begun.
pub record Remaining : Type 0 where
  pub octets : List ℕ
  pub taken : ℕ
  pub choices : ℕ
  pub options : ℕ
  pub all_options : ℕ
  pub passes : ℕ
  pub windows : ℕ

-- at the first position
abbrev pub begins : {Kept : Type 0} → Course Kept → Remaining
begins w = record {
  octets = w.left 0 0 0;
  taken = 0;
  choices = 0;
  options = w.options 0 0 0;
  all_options = w.all_options;
  passes = 0;
  windows = w.windows 0 0;
}

-- Options were compared only for those that were begun since, at most twice the number of all for each.
pub record Chooses (old new : Remaining) : Type 0 where
  pub more : old.choices ≤ new.choices
  pub most : new.choices + 2 * old.all_options * new.options ≤ old.choices + 2 * old.all_options * old.options
  pub all : new.all_options ≡ old.all_options

-- what was taken since are the first of the octets that were left, and all others are still left
pub record Advances (old new : Remaining) : Type 0 where
  pub forward : old.taken ≤ new.taken
  pub rest : new.octets ≡ drop (new.taken - old.taken) old.octets

-- the next step, if there is any, with the octets that are then at hand and the counts before and after it
pub record SteppedOn {Kept : Type 0} (w : Course Kept) (n i j : ℕ) (run : List ℕ)
    (c c' p p' step part item : ℕ) : Type 0 where
  pub octets : w.left n i j ≡ run ++ w.left step part item
  pub after : n ≤ step
  pub more : n < step + length run
  pub few : step ≤ 8
  pub at : w.at step part item
  pub passes : p + w.windows n i ≡ p' + w.windows step part
  pub pass : p' ≤ p + 1
  pub passed : p' ≤ p + length run
  pub choices : c ≤ c'
  pub chosen : c' + 2 * w.all_options * w.options step part item ≤ c + 2 * w.all_options * w.options n i j
  pub option : w.options n i j ≤ w.options step part item + 1
  pub begun : w.options n i j ≤ w.options step part item + length run

pub record NoStep {Kept : Type 0} (w : Course Kept) (n i j : ℕ) (run : List ℕ) (c c' p p' : ℕ) : Type 0 where
  pub octets : w.left n i j ≡ []
  pub nothing : run ≡ []
  pub passes : p ≡ p'
  pub choices : c ≡ c'

abbrev pub RefillsBy : {Kept : Type 0} → Course Kept → ℕ → ℕ → ℕ → List ℕ → ℕ → ℕ → ℕ → ℕ → Option (ℕ × ℕ × ℕ) → Type 0
RefillsBy w n i j run c c' p p' None = NoStep w n i j run c c' p p'
RefillsBy w n i j run c c' p p' (Some q) = SteppedOn w n i j run c c' p p' q.0 q.1 q.2

-- two cursors gave the same n octets
pub record Skips (old new other_old other_new : Remaining) : Type 0 where
  pub n : ℕ
  pub shares : Shares n old.octets new.octets other_old.octets other_new.octets
  pub taken : new.taken ≡ old.taken + n
  pub other_taken : other_new.taken ≡ other_old.taken + n
  pub choices : new.choices ≡ old.choices
  pub other_choices : other_new.choices ≡ other_old.choices
  pub options : new.options ≡ old.options
  pub other_options : other_new.options ≡ other_old.options
  pub all : new.all_options ≡ old.all_options
  pub other_all : other_new.all_options ≡ other_old.all_options
  pub passes : new.passes ≡ old.passes
  pub other_passes : other_new.passes ≡ other_old.passes
  pub windows : new.windows ≡ old.windows
  pub other_windows : other_new.windows ≡ other_old.windows
