-- The octets of options where they are encoded (RFC 6891, 6.1.2), and their canonical octets.
use Rattle.std.specs.Prelude.{ℕ, ◌+◌, ◌/◌, ◌==◌, ◌&&◌, nat_le, Bool, true, false, if◌then◌else◌, List, [], ◌∷◌, length, take, drop, get_or}
use Rattle.std.specs.{Int.from_be_bytes, Int.w16, Cmp.Lexicographic.slice_cmp, Ordering.nat_cmp}
use Rattle.dns_fields.specs.Sorting.{sorted}

-- how many octets the value of the option at an offset has, by its length octets
abbrev pub value_size : List ℕ → ℕ → ℕ
value_size m o = from_be_bytes w16 (get_or m (o + 2) 0 ∷ get_or m (o + 3) 0 ∷ [])

-- the option at an offset: its code, length and value; no octets if it is not whole
unfoldable pub option_at : List ℕ → ℕ → List ℕ
option_at m o = if nat_le (o + 4 + value_size m o) (length m) then take (4 + value_size m o) (drop o m) else []

-- how many octets a client subnet has: family, the two prefixes, and the address that the source prefix asks for
-- (RFC 7871, 6)
abbrev pub subnet_size : List ℕ → ℕ
subnet_size p = 4 + (get_or p 6 0 + 7) / 8

-- whether an option is a client subnet that has all of these octets
abbrev pub is_subnet : List ℕ → Bool
is_subnet p = nat_le 8 (length p) && (get_or p 0 0 == 0 && (get_or p 1 0 == 8 && nat_le (4 + subnet_size p) (length p)))

-- what follows the address of a client subnet is left out
abbrev pub shortened : List ℕ → List ℕ
shortened p = if is_subnet p then 0 ∷ 8 ∷ 0 ∷ subnet_size p ∷ take (subnet_size p) (drop 4 p) else p

-- the canonical octets of an option; none if code and length are not whole
unfoldable pub own_octets : List ℕ → List ℕ
own_octets p = if nat_le 4 (length p) then shortened p else []

-- canonical octets of the option at an offset
abbrev pub own_at : List ℕ → ℕ → List ℕ
own_at m o = own_octets (option_at m o)

-- how many octets the option at an offset has
abbrev pub size_at : List ℕ → ℕ → ℕ
size_at m o = length (option_at m o)

-- the octets of each option, in rising order for canonical octets, and otherwise in their order
abbrev pub in_order : Bool → List (List ℕ) → List (List ℕ)
in_order true parts = sorted (slice_cmp nat_cmp) parts
in_order false parts = parts
