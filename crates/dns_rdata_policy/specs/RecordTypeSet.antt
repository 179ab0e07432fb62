-- Sets of record types: how one is encoded, and what their readers and emitters do (RFC 4034, 4.1.2).
use Rattle.std.specs.Prelude.{◌≡◌, ℕ, ◌+◌, ◌-◌, ◌/◌, ◌%◌, ◌≤◌, ◌==◌, ◌&&◌, ◌||◌, ◌<◌, ◌⊎◌, Bool, true, false, List, [], ◌∷◌, ◌++◌, length}
use Rattle.std.specs.Prelude.{slice_index, slice_index_or}
use Rattle.std.specs.{List.flat_map, List.All, List.AllByRecursion, List.list_any, Int.bit_at}
use Rattle.dns_fields.specs.Bitmaps.{Block, block, IsBlock, has_type, contains, IsTypeSet, BitmapAt}
use Rattle.dns_fields.specs.{Fields.Values, declared.Kind.Kind, declared.Kind.TheVariants.Bitmap}
use Rattle.dns_types.specs.declared.error.DecodeError.{DecodeError}
use Rattle.dns_types.specs.declared.error.DecodeError.TheVariants as decode
use Rattle.dns_names_wire.specs.{State.Reading, Terms.LacksOctets}

-- v is the set of these numbers
pub record IsSetOf (numbers v : List ℕ) : Type 0 where
  pub set : IsTypeSet v
  pub same : (t : ℕ) → contains t v ≡ contains t numbers

-- a bitmap alone
abbrev pub set_shape : List Kind
set_shape = Bitmap ∷ []

abbrev pub set_fields : List ℕ → Values set_shape
set_fields v = (v, tt)

-- ---- reading

-- the octets from p to q are no bitmap
pub record IsNoBitmap (m : List ℕ) (p q : ℕ) : Type 0 where
  pub none : (v : List ℕ) → BitmapAt m p v q → ⊥

-- n octets are missing, and none is taken
pub record TruncatedBitmap (n : ℕ) (old : Reading) (e : DecodeError) (new : Reading) : Type 0 where
  pub error : e ≡ decode.InsufficientBytes
  pub lacks : LacksOctets old n
  pub stays : new ≡ old

-- n octets are there and taken, and they are no bitmap
pub record WrongBitmap (n : ℕ) (old : Reading) (e : DecodeError) (new : Reading) : Type 0 where
  pub error : e ≡ decode.BitmapInvalid
  pub within : old.index + n ≤ length old.message
  pub none : IsNoBitmap old.message old.index (old.index + n)
  pub message : new.message ≡ old.message
  pub index : new.index ≡ old.index + n

-- n octets are there and taken, and memory for the set runs out
pub record NoMemoryForSet (n : ℕ) (old : Reading) (e : DecodeError) (new : Reading) : Type 0 where
  pub error : e ≡ decode.Memory
  pub within : old.index + n ≤ length old.message
  pub message : new.message ≡ old.message
  pub index : new.index ≡ old.index + n

-- a bitmap of n octets is rejected
abbrev pub IsBitmapError : ℕ → Reading → DecodeError → Reading → Type 0
IsBitmapError n old e new = TruncatedBitmap n old e new ⊎ (WrongBitmap n old e new ⊎ NoMemoryForSet n old e new)

-- ---- its parts: which numbers a list has, and which are marked, as a test

abbrev pub held : List ℕ → ℕ → Bool
held v t = contains t v

-- marked by a bit for each number, the highest bit of an octet first
abbrev pub is_marked : List ℕ → ℕ → Bool
is_marked marks t = bit_at (slice_index marks (t / 8)) (7 - t % 8) == 1

-- those of before, and those that the test passes
pub record Adds (test before after : ℕ → Bool) : Type 0 where
  pub types : (t : ℕ) → after t ≡ (before t || test t)

-- octet g of all octets has the type's bit: the types 8 g to 8 g + 7, from its highest bit on
abbrev pub octet_has : ℕ → ℕ → ℕ → Bool
octet_has g octet t = (t / 8 == g) && (bit_at octet (7 - t % 8) == 1)

-- the first block, of which this holds, and the rest
pub record TookBlock (octets rest : List ℕ) (what : Block → Type 0) : Type 0 where
  pub taken : Block
  pub is : IsBlock taken
  pub front : octets ≡ block taken ++ rest
  pub holds : what taken

-- there is no first block
pub record NoBlock (octets : List ℕ) : Type 0 where
  pub none : (b : Block) (rest : List ℕ) → IsBlock b → octets ≡ block b ++ rest → ⊥

-- the octets are blocks, whose types are these numbers
pub record AreBlocks (octets : List ℕ) (numbers : ℕ → Bool) : Type 0 where
  pub blocks : List Block
  pub fit : AllByRecursion IsBlock blocks
  pub spelled : octets ≡ flat_map block blocks
  pub types : (t : ℕ) → numbers t ≡ list_any (has_type t) blocks

-- they are not
pub record NoBlocks (octets : List ℕ) : Type 0 where
  pub none : (blocks : List Block) → AllByRecursion IsBlock blocks → octets ≡ flat_map block blocks → ⊥

-- the first octets are enough for a block whose window has n octets
pub record FitsBlock (octets : List ℕ) (n : ℕ) : Type 0 where
  pub head : 2 ≤ length octets
  pub count : slice_index octets 1 ≡ n
  pub some : 1 ≤ n
  pub most : n ≤ 32
  pub whole : n ≤ length octets - 2

abbrev pub IsBlockError : DecodeError → Type 0 → Type 0
IsBlockError e wrong = (e ≡ decode.Memory) ⊎ ((e ≡ decode.BitmapInvalid) × wrong)

-- a number that is marked is of a window that was met
pub record AreMet (marks : List ℕ) (met : List Bool) : Type 0 where
  pub windows : (t : ℕ) → is_marked marks t ≡ true → slice_index_or met (t / 256) false ≡ true

-- ---- emitting

-- each number is of window k
abbrev pub AreOfWindow : ℕ → List ℕ → Type 0
AreOfWindow k numbers = All (λ t. t / 256 ≡ k) numbers

-- the window of the first number
abbrev pub first_window : List ℕ → ℕ
first_window numbers = slice_index numbers 0 / 256

-- t is the last number of window k in v
pub record IsLastOf (v : List ℕ) (k t : ℕ) : Type 0 where
  pub has : contains t v ≡ true
  pub of : t / 256 ≡ k
  pub last : (u : ℕ) → t < u → u / 256 ≡ k → contains u v ≡ false
