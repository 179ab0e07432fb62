-- The definitions of bitmaps, checked against octets that were worked out by hand.
use Rattle.std.proofs.Common.{◌≡◌, ℕ, zero, suc, ◌-◌, ◌/◌, ◌%◌, ◌≤◌, ◌<◌, false, ◌==◌, ◌&&◌, ◌||◌, List}
use Rattle.std.proofs.Common.{[], ◌∷◌, ◌++◌, length, get_or, refl, ap, ◌∙◌, arith}
use Rattle.std.specs.{List.flat_map, List.AllByRecursion, List.list_any, Int.bit_at}
use Rattle.std.proofs.lemmas.List.{length-append}
use Rattle.dns_fields.specs.{Octets.At}
use Rattle.dns_fields.specs.Bitmaps.{Block, block, IsBlock, IsTypeSet, has_type, minimal, window, types_octet, mark, BitmapAt}
use Rattle.dns_fields.specs.Fields.{Field, field_octets}
use Rattle.dns_fields.specs.declared.Kind.{TheVariants.Bitmap}
use Rattle.dns_fields.specs.Examples.{BitmapExamples}
use Rattle.dns_fields.proofs.{Bitmaps.minimal_first, Bitmaps.minimal_types}
use Rattle.dns_fields.proofs.Examples.{reads, next, at, At-whole, number}

-- blocks from an offset on that are the minimal ones of a set
bitmap : {m : List ℕ} {p q : ℕ} (v : List ℕ) (blocks : List Block) → At m p (flat_map block blocks) q → AllByRecursion IsBlock blocks → IsTypeSet v
    → minimal v ≡ blocks → Field m p Bitmap v q
bitmap v blocks there fit set e =
    record { is = record { blocks = blocks; at = there; fit = fit; set = set; types = λ t. minimal_types v set.numbers t ∙ ap (list_any (has_type t)) e } }

fits : {number : ℕ} {octets : List ℕ} → number < 256 → 1 ≤ length octets → length octets ≤ 32 → IsBlock (number, octets)
fits n some most = record { number = n; some = some; most = most }

-- three numbers that rise
three_rise : {a b c : ℕ} → a < b → b < c → c < 65536 → IsTypeSet (a ∷ b ∷ c ∷ [])
three_rise p q r = record { rises = ((p, (omega arith, tt)), ((q, tt), (tt, tt))); numbers = (omega arith, (omega arith, (r, tt))) }

three_types : minimal (1 ∷ 2 ∷ 28 ∷ []) ≡ (0, 0x60 ∷ 0x00 ∷ 0x00 ∷ 0x08 ∷ []) ∷ []
unfolding window types_octet mark
three_types = minimal_first (1 ∷ 2 ∷ 28 ∷ []) 1 (omega arith) (omega arith, (omega arith, (omega arith, tt)))

two_windows : minimal (1 ∷ 256 ∷ 257 ∷ []) ≡ (0, 0x40 ∷ []) ∷ (1, 0xc0 ∷ []) ∷ []
unfolding window types_octet mark
two_windows = minimal_first (1 ∷ 256 ∷ 257 ∷ []) 2 (omega arith) (omega arith, (omega arith, (omega arith, tt)))

one_octet : minimal (1 ∷ 2 ∷ []) ≡ (0, 0x60 ∷ []) ∷ []
unfolding window types_octet mark
one_octet = minimal_first (1 ∷ 2 ∷ []) 1 (omega arith) (omega arith, (omega arith, tt))

-- an octet 0 at the end adds no types
zero_has : (t : ℕ) → list_any (has_type t) ((0, 0x60 ∷ []) ∷ []) ≡ list_any (has_type t) ((0, 0x60 ∷ 0x00 ∷ []) ∷ [])
unfolding has_type
zero_has t = ap (λ (o : ℕ). ((t / 256 == 0) && (bit_at o (7 - t % 8) == 1)) || false) (same (t % 256 / 8))
  where
    same : (i : ℕ) → ◌≡◌ {A = ℕ} (get_or (0x60 ∷ []) i 0) (get_or (0x60 ∷ 0x00 ∷ []) i 0)
    same zero = refl
    same (suc zero) = refl
    same (suc (suc i)) = refl

no_block : (bs : List Block) → AllByRecursion IsBlock bs → (flat_map block bs ≡ 0x00 ∷ 0x00 ∷ [] → ⊥) × (flat_map block bs ≡ 0x00 ∷ 0x02 ∷ 0x60 ∷ [] → ⊥)
no_block [] h = (λ e. cc e, λ e. cc e)
no_block (b ∷ bs) h = (
  λ e.
      let f : b.0 ∷ length b.1 ∷ (b.1 ++ flat_map block bs) ≡ 0x00 ∷ 0x00 ∷ [] = e in
      let n : length b.1 ≡ 0 = cc in
      omega (arith, h.0.some),
  λ e.
      let f : b.0 ∷ length b.1 ∷ (b.1 ++ flat_map block bs) ≡ 0x00 ∷ 0x02 ∷ 0x60 ∷ [] = e in
      let n : length b.1 ≡ 2 = cc in
      let t : b.1 ++ flat_map block bs ≡ 0x60 ∷ [] = cc in
      omega (arith, ap length t, length-append b.1 (flat_map block bs)),
)

pub bitmap_examples : BitmapExamples
unfolding field_octets
bitmap_examples = record {
  types_read = reads
      (next 4 (number (omega arith) refl (omega arith) refl)
      (next 6 (number (omega arith) refl (omega arith) refl)
      (next 12 (bitmap (1 ∷ 2 ∷ 28 ∷ []) ((0, 0x60 ∷ 0x00 ∷ 0x00 ∷ 0x08 ∷ []) ∷ []) (at refl (omega arith) refl)
      (fits (omega arith) (omega arith) (omega arith), tt) (three_rise (omega arith) (omega arith) (omega arith)) three_types)
      refl)))
      (ap (λ (bs : List Block). 0x00 ∷ 0x00 ∷ 0x00 ∷ 0x7b ∷ 0x00 ∷ 0x03 ∷ (flat_map block bs ++ [])) three_types);
  windows_read = reads
      (next 6 (bitmap (1 ∷ 256 ∷ 257 ∷ []) ((0, 0x40 ∷ []) ∷ (1, 0xc0 ∷ []) ∷ []) (at refl (omega arith) refl)
      (fits (omega arith) (omega arith) (omega arith), (fits (omega arith) (omega arith) (omega arith), tt))
      (three_rise (omega arith) (omega arith) (omega arith)) two_windows)
      refl)
      (ap (λ (bs : List Block). flat_map block bs ++ []) two_windows);
  zeros_dropped = reads
      (next 4 (record {
        is = record {
          blocks = (0, 0x60 ∷ 0x00 ∷ []) ∷ [];
          at = at refl (omega arith) refl;
          fit = (fits (omega arith) (omega arith) (omega arith), tt);
          set = record { rises = ((omega arith, tt), (tt, tt)); numbers = (omega arith, (omega arith, tt)) };
          types = λ t. minimal_types (1 ∷ 2 ∷ []) (omega arith, (omega arith, tt)) t ∙ ap (list_any (has_type t)) one_octet ∙ zero_has t;
        };
      }) refl)
      (ap (λ (bs : List Block). flat_map block bs ++ []) one_octet);
  broken_window = (
    λ v f. let g : BitmapAt (0x00 ∷ 0x00 ∷ []) 0 v.0 f.0 = f.1.is in (no_block g.blocks g.fit).0 (At-whole g.at f.2),
    λ v f. let g : BitmapAt (0x00 ∷ 0x02 ∷ 0x60 ∷ []) 0 v.0 f.0 = f.1.is in (no_block g.blocks g.fit).1 (At-whole g.at f.2),
  );
}
