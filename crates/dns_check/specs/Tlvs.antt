-- Keys or codes, each with a length and so many octets, one after the other.
use Rattle.std.specs.Prelude.{◌≡◌, ℕ, List, length}
use Rattle.dns_fields.specs.{Octets.At, Tlvs.Numbered, Tlvs.tlvs, Tlvs.AreTlvs}
use Rattle.dns_check.specs.Parameters.{IsTlvAt}

-- one is there
pub record TlvThere (octets : List ℕ) (offset end : ℕ) : Type 0 where
  pub key : ℕ
  pub body : List ℕ
  pub is : IsTlvAt octets offset key body end

-- they fill the octets
pub record AreComplete (octets : List ℕ) : Type 0 where
  pub read : List (Numbered (List ℕ))
  pub at : At octets 0 (tlvs read) (length octets)
  pub fit : AreTlvs read

-- so many of them
pub record CompleteBy (octets : List ℕ) (n : ℕ) : Type 0 where
  pub parts : AreComplete octets
  pub number : n ≡ length parts.read
