-- The options or parameters that octets begin with (RFC 6891, 6.1.2; RFC 9460, 2.2).
use Rattle.std.specs.Prelude.{◌≡◌, ℕ, zero, suc, nat_le, if◌then◌else◌, List, [], ◌∷◌, ◌++◌, length, take}
use Rattle.std.specs.Int.{from_be_bytes, w16}
use Rattle.dns_fields.specs.Tlvs.{Numbered, tlv, IsTlv}

-- after so many octets: numbers and octets up to the first that are not whole
abbrev pub tlvs_after : ℕ → List ℕ → List (Numbered (List ℕ))
tlvs_after n [] = []
tlvs_after (suc n) (octet ∷ rest) = tlvs_after n rest
tlvs_after zero (a ∷ (b ∷ (c ∷ (d ∷ rest)))) =
    if nat_le (from_be_bytes w16 (c ∷ d ∷ [])) (length rest)
    then (from_be_bytes w16 (a ∷ b ∷ []), take (from_be_bytes w16 (c ∷ d ∷ [])) rest)
    ∷ tlvs_after (from_be_bytes w16 (c ∷ d ∷ [])) rest
    else []
tlvs_after zero octets = []

-- the octets begin with none that is whole
pub record NoTlv (octets : List ℕ) : Type 0 where
  pub none : (x : Numbered (List ℕ)) (rest : List ℕ) → IsTlv x → octets ≡ tlv x ++ rest → ⊥
