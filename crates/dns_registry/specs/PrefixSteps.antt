-- The first address prefix of octets.
use Rattle.std.specs.Prelude.{◌≡◌, ℕ, ◌≤◌, List, ◌++◌, length, drop}
use Rattle.dns_registry.specs.FieldRules.{AddressPrefix, IsAddressPrefix, prefix_octets}

-- the first octets, so many, are an address prefix
pub record FirstPrefix (octets : List ℕ) (n : ℕ) : Type 0 where
  pub first : AddressPrefix
  pub fits : IsAddressPrefix first
  pub spelled : octets ≡ prefix_octets first ++ drop n octets
  pub some : 1 ≤ n
  pub within : n ≤ length octets

-- octets do not begin with an address prefix
pub record NoPrefix (octets : List ℕ) : Type 0 where
  pub none : (x : AddressPrefix) (rest : List ℕ) → IsAddressPrefix x → octets ≡ prefix_octets x ++ rest → ⊥
