-- The character strings that octets begin with (RFC 1035, 3.3.14).
use Rattle.std.specs.Prelude.{◌≡◌, ℕ, zero, suc, nat_le, if◌then◌else◌, List, [], ◌∷◌, ◌++◌, length, take}
use Rattle.dns_fields.specs.Tlvs.{string}

-- after so many octets: the strings up to the first that is not whole
abbrev pub strings_after : ℕ → List ℕ → List (List ℕ)
strings_after n [] = []
strings_after (suc n) (octet ∷ rest) = strings_after n rest
strings_after zero (size ∷ rest) = if nat_le size (length rest) then take size rest ∷ strings_after size rest else []

-- the octets begin with no whole string
pub record NoString (octets : List ℕ) : Type 0 where
  pub none : (s rest : List ℕ) → octets ≡ string s ++ rest → ⊥
