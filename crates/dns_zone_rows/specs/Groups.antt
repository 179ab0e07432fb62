-- Groups of hexadecimal digits.
use Rattle.std.specs.Prelude.{ℕ, ◌+◌, ◌-◌, ◌*◌, ◌==◌, ◌&&◌, nat_le, if◌then◌else◌, length, List, [], ◌∷◌, ◌++◌, Option, Some, None}
use Rattle.std.specs.Int.{bytes_high_first}
use Rattle.dns_zone_rows.specs.declared.groups.Groups.{Groups}

-- the value of a digit in either case
abbrev pub hex_digit : ℕ → Option ℕ
hex_digit c =
    if nat_le 48 c && nat_le c 57 then Some (c - 48)
    else if nat_le 65 c && nat_le c 70 then Some (c - 55)
    else if nat_le 97 c && nat_le c 102 then Some (c - 87)
    else None

-- The octets of groups, after octets that were seen, and after so many digits of a group with this value.
abbrev pub groups_from : Groups → List ℕ → ℕ → ℕ → List ℕ → Option (List ℕ)
groups_from form seen value count [] =
    if nat_le form.least count && (length seen + form.width == form.total)
    then Some (seen ++ bytes_high_first form.width value)
    else None
groups_from form seen value count (c ∷ text) =
    if c == form.separator
    then (if nat_le form.least count then groups_from form (seen ++ bytes_high_first form.width value) 0 0 text else None)
    else elim (hex_digit c) [
      | None ↦ None
      | Some digit ↦ if nat_le (count + 1) (2 * form.width) then groups_from form seen (16 * value + digit) (count + 1) text else None
    ]

-- four groups of at most four digits, with colons between them (RFC 6742, 2.1)
abbrev pub colons : Groups
colons = record { separator = 58; least = 1; width = 2; total = 8 }

-- so many octets, each in two digits, with hyphens between them (RFC 7043, 3.2)
abbrev pub hyphens : ℕ → Groups
hyphens total = record { separator = 45; least = 2; width = 1; total = total }
