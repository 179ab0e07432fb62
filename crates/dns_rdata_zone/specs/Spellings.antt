-- How an octet is spelled in a zone file (RFC 1035, 5.1; RFC 9460, appendix A).
use Rattle.std.specs.Prelude.{ℕ, ◌+◌, ◌/◌, ◌%◌, ◌==◌, ◌||◌, ◌&&◌, nat_le, Bool, if◌then◌else◌, List, [], ◌∷◌, flat_map}

-- a `\` and three digits
abbrev pub three_digits : ℕ → List ℕ
three_digits c = 92 ∷ (48 + c / 100) ∷ (48 + c / 10 % 10) ∷ (48 + c % 10) ∷ []

-- Within quotes: `"` and `\` are escaped by a `\`, the other characters of ASCII from the blank to `~` are written as
-- they are, and any other octet is `\` and three digits.
abbrev pub escaped : ℕ → List ℕ
escaped c = if c == 34 || c == 92 then 92 ∷ c ∷ [] else (if nat_le 32 c && nat_le c 126 then c ∷ [] else three_digits c)

-- a character with a meaning of its own in a name: " $ ( ) . ; @ \
abbrev pub needs_backslash : ℕ → Bool
needs_backslash c = c == 34 || c == 36 || c == 40 || c == 41 || c == 46 || c == 59 || c == 64 || c == 92

-- In a label: such a character is escaped by a `\`, and an octet that is no graphic character of ASCII is `\` and three
-- digits.
abbrev pub name_octet : ℕ → List ℕ
name_octet c =
    if needs_backslash c then 92 ∷ c ∷ [] else (if nat_le 33 c && nat_le c 126 then c ∷ [] else three_digits c)

-- in an item of a list: `,` and `\` are escaped by a `\` (RFC 9460, appendix A.1)
abbrev pub item_octet : ℕ → List ℕ
item_octet c = if c == 44 || c == 92 then 92 ∷ c ∷ [] else c ∷ []

-- in an item of a list that is a string in quotes
abbrev pub protocol_octet : ℕ → List ℕ
protocol_octet c = flat_map escaped (item_octet c)
