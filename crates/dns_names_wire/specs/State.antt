-- What contracts see of a decoder and of an encoder.
use Rattle.std.specs.Prelude.{ℕ, List}
use Rattle.dns_fields.specs.declared.RDataEncoding.{RDataEncoding}

pub record Reading : Type 0 where
  pub message : List ℕ
  pub index : ℕ

-- the octets that precede the message in its vector, the message so far, how many octets it may have, how names are
-- written, and which vector holds it
pub record Writing : Type 0 where
  pub before : List ℕ
  pub octets : List ℕ
  pub limit : ℕ
  pub mode : RDataEncoding
  pub target : ℕ
