-- Hexadecimal digits of one token.
use Rattle.std.specs.Prelude.{ℕ, ◌+◌, ◌*◌, Bool, true, false, if◌then◌else◌, List, [], ◌∷◌, ◌++◌, Option, Some, None}
use Rattle.dns_zone_rows.specs.Groups.{hex_digit}

-- The octets of digits, after octets that were seen, and after the first digit of one where the flag is set.
abbrev pub hex_from : List ℕ → ℕ → Bool → List ℕ → Option (List ℕ)
hex_from seen high odd [] = if odd then None else Some seen
hex_from seen high odd (c ∷ text) = elim (hex_digit c) [
  | None ↦ None
  | Some digit ↦ if odd then hex_from (seen ++ (16 * high + digit) ∷ []) high false text else hex_from seen digit true text
]

abbrev pub hex_octets : List ℕ → Option (List ℕ)
hex_octets text = hex_from [] 0 false text
