-- The types that the blocks of a bitmap list (RFC 4034, 4.1.2).
use Rattle.std.specs.Prelude.{◌≡◌, ℕ, zero, suc, ◌+◌, ◌-◌, ◌*◌, nat_le, ◌&&◌, Bool, true, false, if◌then◌else◌, List, [], ◌∷◌, ◌++◌, length, take}
use Rattle.dns_fields.specs.Bitmaps.{Block, has_type, contains, Rises}
use Rattle.dns_check.specs.Blocks.{types_from}

-- the types of a block from bit i of its octets on, in rising order
abbrev pub types_left : Block → ℕ → List ℕ
types_left b i = types_from (λ t. has_type t b) (256 * b.0 + i) (8 * length b.1 - i)

-- the types of a block
abbrev pub block_types : Block → List ℕ
block_types b = types_left b 0

-- after so many octets: the types of the blocks up to the first that is not whole
abbrev pub types_after : ℕ → List ℕ → List ℕ
types_after n [] = []
types_after (suc n) (octet ∷ rest) = types_after n rest
types_after zero (k ∷ []) = []
types_after zero (k ∷ (n ∷ rest)) =
    if nat_le 1 n && nat_le n 32 && nat_le n (length rest) then block_types (k, take n rest) ++ types_after n rest else []

-- the types that are left from bit i of a block, and in the octets after it
abbrev pub listed : Block → ℕ → List ℕ → List ℕ
listed b i rest = types_left b i ++ types_after 0 rest

-- Types in the order of a message: those of the set, and if they rise, they are the set.
pub record ListsTypes (types set : List ℕ) : Type 0 where
  pub members : (t : ℕ) → contains t types ≡ contains t set
  pub rising : Rises types → types ≡ set
