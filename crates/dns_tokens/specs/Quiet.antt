-- Octets at which a reader of a text need not stop.
use Rattle.std.specs.Prelude.{◌≢◌, ℕ, ◌<◌}

-- greater than `most`, and neither of two others
abbrev pub IsQuiet : ℕ → ℕ → ℕ → ℕ → Type 0
IsQuiet most b c octet = (most < octet) × (octet ≢ b) × (octet ≢ c)
