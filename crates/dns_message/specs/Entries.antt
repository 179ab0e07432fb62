-- Questions and records follow each other in a message, and each begins with a name (RFC 1035, 4.1).
use Rattle.std.specs.Prelude.{◌≡◌, ℕ, ◌+◌, ◌<◌, List, [], ◌∷◌, length}
use Rattle.dns_fields.specs.{Labels.DomainName, Names.IsNameIn}

-- entries from one offset to another: each begins where the one before ended
abbrev pub Follow : {X : Type 0} → (ℕ → X → ℕ → Type 0) → ℕ → List X → ℕ → Type 0
Follow Is p [] end = p ≡ end
Follow Is p (x ∷ xs) end = (q : ℕ) × Is p x q × Follow Is q xs end

-- no name is encoded at the offset
pub record NoName (message : List ℕ) (offset : ℕ) : Type 0 where
  pub none : (x : DomainName) (q : ℕ) → IsNameIn message offset x q → ⊥

-- a name is encoded at the offset, and fewer than n octets follow it
pub record EndsAfterName (message : List ℕ) (offset n : ℕ) : Type 0 where
  pub name : DomainName
  pub end : ℕ
  pub is : IsNameIn message offset name end
  pub short : length message < end + n
