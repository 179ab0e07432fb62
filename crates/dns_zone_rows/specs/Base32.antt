-- Digits of base32 with the extended hexadecimal alphabet, without padding (RFC 4648, 7; RFC 5155, 3.3).
use Rattle.std.specs.Prelude.{ℕ, ◌+◌, ◌-◌, ◌*◌, ◌/◌, ◌%◌, ◌^◌, ◌==◌, ◌&&◌, nat_le, if◌then◌else◌, List, [], ◌∷◌, ◌++◌, Option, Some, None}

-- the value of a digit: 0 to 9, and A to V in either case
abbrev pub base32_digit : ℕ → Option ℕ
base32_digit c =
    if nat_le 48 c && nat_le c 57 then Some (c - 48)
    else if nat_le 65 c && nat_le c 86 then Some (c - 55)
    else if nat_le 97 c && nat_le c 118 then Some (c - 87)
    else None

-- The octets of digits of five bits, after octets that were seen, with so many bits that are in none of them. Fewer than
-- five bits are left at the end, and they are 0.
abbrev pub base32_from : List ℕ → ℕ → ℕ → List ℕ → Option (List ℕ)
base32_from seen bits held [] = if nat_le held 4 && (bits == 0) then Some seen else None
base32_from seen bits held (c ∷ text) = elim (base32_digit c) [
  | None ↦ None
  | Some digit ↦ if nat_le 3 held
      then base32_from (seen ++ (32 * bits + digit) / 2 ^ (held - 3) ∷ []) ((32 * bits + digit) % 2 ^ (held - 3)) (held - 3) text
      else base32_from seen (32 * bits + digit) (held + 5) text
]

abbrev pub base32_octets : List ℕ → Option (List ℕ)
base32_octets text = base32_from [] 0 0 text
