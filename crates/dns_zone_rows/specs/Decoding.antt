-- What code that decodes text into a vector does.
use Rattle.std.specs.Prelude.{◌≡◌, ℕ, Bool, true, false, List, ◌++◌, Option, Some, None}

-- the octets that the text has were appended, or it has none
abbrev pub Appended : Bool → Option (List ℕ) → List ℕ → List ℕ → Type 0
Appended true (Some octets) before after = after ≡ before ++ octets
Appended false None before after = Unit {0}
Appended true None before after = ⊥
Appended false (Some octets) before after = ⊥
