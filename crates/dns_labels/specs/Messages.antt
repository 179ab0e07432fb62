-- A message at the end of a vector.
use Rattle.std.specs.Prelude.{ℕ, List, ◌≡◌}

-- the octets before the message, the message, how many octets the vector has room for, and which vector it is
pub record Written : Type 0 where
  pub before : List ℕ
  pub items : List ℕ
  pub capacity : ℕ
  pub vector : ℕ

-- the same octets before the message, in the same vector
pub record StaysInVector (old new : Written) : Type 0 where
  pub before : new.before ≡ old.before
  pub vector : new.vector ≡ old.vector
