-- Sets of type numbers (RFC 4034, 4.1.2).
use Rattle.std.specs.Prelude.{◌≡◌, ℕ, zero, suc, ◌+◌, ◌-◌, ◌*◌, ◌/◌, ◌%◌, ◌<◌, ◌≤◌, ◌^◌, ◌==◌, ◌&&◌, Bool, if◌then◌else◌, List, [], ◌∷◌, length, map}
use Rattle.std.specs.Prelude.{slice_index_or}
use Rattle.std.specs.{List.flat_map, List.AllByRecursion, List.list_any, List.range_with_len, Int.bit_at}
use Rattle.dns_fields.specs.Octets.{At}

-- a window's number, and octets whose bits are its types
abbrev pub Block : Type 0
Block = ℕ × List ℕ

abbrev pub block : Block → List ℕ
block b = b.0 ∷ length b.1 ∷ b.1

pub record IsBlock (b : Block) : Type 0 where
  pub number : b.0 < 256
  pub some : 1 ≤ length b.1
  pub most : length b.1 ≤ 32

-- whether the block has the type: bit 0 is the highest bit of the first octet
unfoldable pub has_type : ℕ → Block → Bool
has_type t b = (t / 256 == b.0) && (bit_at (slice_index_or b.1 (t % 256 / 8) 0) (7 - t % 8) == 1)

abbrev pub contains : ℕ → List ℕ → Bool
contains t v = list_any (λ u. u == t) v

abbrev pub AllAbove : ℕ → List ℕ → Type 0
AllAbove n [] = Unit {0}
AllAbove n (x ∷ xs) = (n < x) × AllAbove n xs

-- each number once, in rising order
abbrev pub Rises : List ℕ → Type 0
Rises [] = Unit {0}
Rises (x ∷ xs) = AllAbove x xs × Rises xs

pub record IsTypeSet (v : List ℕ) : Type 0 where
  pub rises : Rises v
  pub numbers : AllByRecursion (λ t. t < 65536) v

-- blocks in any order from p to q, whose types are those of v
pub record BitmapAt (m : List ℕ) (p : ℕ) (v : List ℕ) (q : ℕ) : Type 0 where
  pub blocks : List Block
  pub at : At m p (flat_map block blocks) q
  pub fit : AllByRecursion IsBlock blocks
  pub set : IsTypeSet v
  pub types : (t : ℕ) → contains t v ≡ list_any (has_type t) blocks

-- ---- the minimal bitmap

-- the number whose n bits f gives, the highest first
abbrev pub packed : (ℕ → ℕ) → ℕ → ℕ
packed f zero = 0
packed f (suc n) = packed f n * 2 ^ 1 + f n

unfoldable pub mark : List ℕ → ℕ → ℕ
mark v t = if contains t v then 1 else 0

-- x before what is left after it, if either is more than zeros
abbrev pub keep : ℕ → List ℕ → List ℕ
keep zero [] = []
keep (suc n) [] = suc n ∷ []
keep x (y ∷ ys) = x ∷ y ∷ ys

-- a list without the zeros at its end
abbrev pub trimmed : List ℕ → List ℕ
trimmed [] = []
trimmed (x ∷ xs) = keep x (trimmed xs)

-- octet j of window k
unfoldable pub types_octet : List ℕ → ℕ → ℕ → ℕ
types_octet v k j = packed (λ b. mark v (256 * k + (8 * j + b))) 8

-- the octets of window k
unfoldable pub window : List ℕ → ℕ → List ℕ
window v k = trimmed (map (types_octet v k) (range_with_len 0 32))

-- a block where it has octets
abbrev pub with_block : ℕ → List ℕ → List Block → List Block
with_block k [] bs = bs
with_block k (x ∷ xs) bs = (k, x ∷ xs) ∷ bs

abbrev pub windows : List ℕ → List ℕ → List Block
windows v [] = []
windows v (k ∷ ks) = with_block k (window v k) (windows v ks)

unfoldable pub minimal : List ℕ → List Block
minimal v = windows v (range_with_len 0 256)
