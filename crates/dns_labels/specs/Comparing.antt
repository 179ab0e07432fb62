-- What is fed of a name's octets to a hasher.
use Rattle.std.specs.Prelude.{ℕ, List, [], ◌∷◌, ◌++◌, map}
use Rattle.std.specs.Char.{to_ascii_lowercase}

-- the octets with A to Z lowered, and the 0 at the end
abbrev pub lowered_octets : List ℕ → List ℕ
lowered_octets octets = map to_ascii_lowercase octets ++ 0 ∷ []
