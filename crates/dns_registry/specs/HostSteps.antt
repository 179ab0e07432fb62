-- The first name of octets.
use Rattle.std.specs.Prelude.{◌≡◌, ℕ, ◌≤◌, List, ◌++◌, length, drop}
use Rattle.dns_registry.specs.FieldRules.{IsPlainName, name_octets}

-- the first octets, so many, are an uncompressed name
pub record FirstName (octets : List ℕ) (n : ℕ) : Type 0 where
  pub labels : List (List ℕ)
  pub fits : IsPlainName labels
  pub spelled : octets ≡ name_octets labels ++ drop n octets
  pub some : 1 ≤ n
  pub within : n ≤ length octets

-- octets do not begin with an uncompressed name
pub record NoName (octets : List ℕ) : Type 0 where
  pub none : (labels : List (List ℕ)) (rest : List ℕ) → IsPlainName labels → octets ≡ name_octets labels ++ rest → ⊥
