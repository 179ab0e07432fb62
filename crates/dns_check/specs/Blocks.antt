-- The blocks of a bitmap of type numbers (RFC 4034, 4.1.2).
use Rattle.std.specs.Prelude.{◌≡◌, ℕ, zero, suc, ◌-◌, ◌≤◌, Bool, true, false, List, ◌∷◌, [], ◌++◌, length, slice_index}
use Rattle.std.specs.List.{flat_map, AllByRecursion}
use Rattle.dns_fields.specs.Bitmaps.{Block, block, IsBlock}

-- the first octets are enough for a block whose window has n octets
pub record FitsBlock (octets : List ℕ) (n : ℕ) : Type 0 where
  pub head : 2 ≤ length octets
  pub count : slice_index octets 1 ≡ n
  pub some : 1 ≤ n
  pub most : n ≤ 32
  pub whole : n ≤ length octets - 2

-- they are not, for any n
pub record NoFit (octets : List ℕ) : Type 0 where
  pub none : (n : ℕ) → FitsBlock octets n → ⊥

-- there is no first block
pub record NoBlock (octets : List ℕ) : Type 0 where
  pub none : (b : Block) (rest : List ℕ) → IsBlock b → octets ≡ block b ++ rest → ⊥

-- the octets are blocks
pub record AreBlocks (octets : List ℕ) : Type 0 where
  pub blocks : List Block
  pub fit : AllByRecursion IsBlock blocks
  pub spelled : octets ≡ flat_map block blocks

-- they are not
pub record NoBlocks (octets : List ℕ) : Type 0 where
  pub none : (blocks : List Block) → AllByRecursion IsBlock blocks → octets ≡ flat_map block blocks → ⊥

-- a number before others, if it is listed
abbrev pub with_type : Bool → ℕ → List ℕ → List ℕ
with_type true t ts = t ∷ ts
with_type false t ts = ts

-- of the n numbers from t on those that pass the test
abbrev pub types_from : (ℕ → Bool) → ℕ → ℕ → List ℕ
types_from test t zero = []
types_from test t (suc n) = with_type (test t) t (types_from test (suc t) n)
