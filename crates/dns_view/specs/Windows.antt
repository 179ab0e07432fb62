-- The octets of bitmaps (RFC 4034, 4.1.2).
use Rattle.std.specs.Prelude.{◌≡◌, ℕ, ◌+◌, ◌-◌, ◌/◌, ◌%◌, ◌<◌, ◌≤◌, ◌==◌, List, [], ◌∷◌, length, bit_or, slice_index_or}
use Rattle.std.specs.{List.flat_map, List.AllByRecursion, Int.bit_at}
use Rattle.dns_fields.specs.Bitmaps.{Block, block, IsBlock, BitmapAt, contains}

-- the numbers of the blocks rise, and the first is at least k
abbrev pub NumbersRise : ℕ → List Block → Type 0
NumbersRise k [] = Unit {0}
NumbersRise k (b ∷ bs) = (k ≤ b.0) × NumbersRise (b.0 + 1) bs

-- the octets are blocks whose numbers rise
pub record RisingBlocks (octets : List ℕ) : Type 0 where
  pub blocks : List Block
  pub fit : AllByRecursion IsBlock blocks
  pub rises : NumbersRise 0 blocks
  pub spelled : octets ≡ flat_map block blocks

-- bit 7 - t % 8 of octet t / 8 is set exactly if the bitmap, which is all of the octets, has type t
pub record AreMarksOf (octets marks : List ℕ) : Type 0 where
  pub is : (v : List ℕ) → BitmapAt octets 0 v (length octets)
      → (t : ℕ) → t < 65536 → (bit_at (slice_index_or marks (t / 8) 0) (7 - t % 8) == 1) ≡ contains t v

-- from an offset on the bits of the octets are set, and all bits that were set are still set
pub record AddsOctets (at : ℕ) (octets old new : List ℕ) : Type 0 where
  pub before : (i : ℕ) → i < at → slice_index_or new i 0 ≡ slice_index_or old i 0
  pub here : (i : ℕ) → i < length octets
      → slice_index_or new (at + i) 0 ≡ bit_or (slice_index_or old (at + i) 0) (slice_index_or octets i 0)
  pub after : (i : ℕ) → at + length octets ≤ i → slice_index_or new i 0 ≡ slice_index_or old i 0
