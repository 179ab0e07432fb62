-- Octets, and where they are in a message.
use Rattle.std.specs.Prelude.{◌≡◌, ℕ, ◌+◌, ◌<◌, ◌≤◌, All, List, length, take, drop}

-- each octet is a number of 0 to 255
abbrev pub AreOctets : List ℕ → Type 0
AreOctets octets = All (λ octet. octet < 256) octets

-- the octets x are in the message from p to q
pub record At (message : List ℕ) (p : ℕ) (x : List ℕ) (q : ℕ) : Type 0 where
  pub ends : q ≡ p + length x
  pub within : q ≤ length message
  pub same : take (length x) (drop p message) ≡ x
