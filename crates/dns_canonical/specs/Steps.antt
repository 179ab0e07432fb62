-- The canonical octets of a record, step by step. A position in a record is three numbers: how many steps are taken,
-- and, in a list that takes a step for each part, the part and the item in it.
use Rattle.std.specs.Prelude.{◌≡◌, ℕ, zero, suc, ◌+◌, ◌*◌, ◌<◌, ◌≤◌, Option, Some, None, List, [], ◌∷◌, ◌++◌, length}
use Rattle.std.specs.List.{AllByRecursion}
use Rattle.dns_fields.specs.Fields.{Value, Values, canonical}
use Rattle.dns_fields.specs.declared.Kind.{Kind, TheVariants.CharacterString, TheVariants.CharacterStrings}
use Rattle.dns_canonical.specs.declared.step.Step.{Step}

-- the octets of a record that are left at each position
abbrev pub LeftAt : Type 0
LeftAt = ℕ → ℕ → ℕ → List ℕ

-- a character string has at most 255 octets
abbrev pub IsShort : (k : Kind) → Value k → Type 0
IsShort CharacterString s = length s < 256
IsShort CharacterStrings ss = AllByRecursion (λ s. length s < 256) ss
IsShort k v = Unit {0}

abbrev pub AllShort : (kinds : List Kind) → Values kinds → Type 0
AllShort [] vs = Unit {0}
AllShort (k ∷ kinds) vs = IsShort k vs.0 × AllShort kinds vs.1

-- the canonical octets from field f on
abbrev pub from_field : ℕ → (kinds : List Kind) → Values kinds → List ℕ
from_field zero kinds vs = canonical kinds vs
from_field (suc f) [] vs = []
from_field (suc f) (k ∷ kinds) vs = from_field f kinds vs.1

-- what is left after n steps, each of which begins at one of these fields
abbrev pub at_field : List ℕ → ℕ → (kinds : List Kind) → Values kinds → List ℕ
at_field [] n kinds vs = []
at_field (f ∷ fs) zero kinds vs = from_field f kinds vs
at_field (f ∷ fs) (suc n) kinds vs = at_field fs n kinds vs

-- one step, the first
abbrev pub at_once : List ℕ
at_once = 0 ∷ []

-- of a record whose steps begin at these fields, and take no list apart
abbrev pub field_steps : List ℕ → (kinds : List Kind) → Values kinds → LeftAt
field_steps begins kinds vs n i j = at_field begins n kinds vs

-- the octets of a head and a tail come next, and then those from another position on; some octets, or a later step
pub record StepAt (left : LeftAt) (n i j : ℕ) (head : List ℕ) (s : Step) : Type 0 where
  pub octets : left n i j ≡ (head ++ s.tail) ++ left s.step s.part s.item
  pub after : n ≤ s.step
  pub more : n < s.step + length (head ++ s.tail)
  pub few : s.step ≤ 8

pub record Ended (left : LeftAt) (n i j : ℕ) (head : List ℕ) : Type 0 where
  pub octets : left n i j ≡ []
  pub nothing : head ≡ []

-- the next step after a position, if there is any
abbrev pub GivesStep : LeftAt → ℕ → ℕ → ℕ → List ℕ → Option Step → Type 0
GivesStep left n i j head None = Ended left n i j head
GivesStep left n i j head (Some s) = StepAt left n i j head s

-- ---- how often a set of types was gone over

-- a pass was made for the one window that began, if one did, of those that were not begun
pub record PassedWindow (old new : ℕ) (windows : ℕ → ℕ → ℕ) (n i : ℕ) (head : List ℕ) (s : Step) : Type 0 where
  pub passes : old + windows n i ≡ new + windows s.step s.part
  pub one : new ≤ old + 1
  pub begun : new ≤ old + length (head ++ s.tail)

abbrev pub CountsPasses : ℕ → ℕ → (ℕ → ℕ → ℕ) → ℕ → ℕ → List ℕ → Option Step → Type 0
CountsPasses old new windows n i head None = old ≡ new
CountsPasses old new windows n i head (Some s) = PassedWindow old new windows n i head s

-- ---- how often two options were compared

-- at most twice the number of all options, for the one that began, if one did, of those that were not begun
pub record ChoseOption (old new all : ℕ) (options : ℕ → ℕ → ℕ → ℕ) (n i j : ℕ) (head : List ℕ) (s : Step) : Type 0 where
  pub more : old ≤ new
  pub most : new + 2 * all * options s.step s.part s.item ≤ old + 2 * all * options n i j
  pub one : options n i j ≤ options s.step s.part s.item + 1
  pub begun : options n i j ≤ options s.step s.part s.item + length (head ++ s.tail)

abbrev pub CountsChoices : ℕ → ℕ → ℕ → (ℕ → ℕ → ℕ → ℕ) → ℕ → ℕ → ℕ → List ℕ → Option Step → Type 0
CountsChoices old new all options n i j head None = old ≡ new
CountsChoices old new all options n i j head (Some s) = ChoseOption old new all options n i j head s
