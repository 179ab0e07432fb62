-- The blocks of a bitmap, one after the other, and the set of their types.
use Rattle.std.proofs.Common.{◌≡◌, ℕ, zero, suc, ◌+◌, ◌-◌, ◌/◌, ◌<◌, ◌≤◌, Bool, true, false, inl, inr, List, [], ◌∷◌, ◌++◌}
use Rattle.std.proofs.Common.{length, take, drop, get_or, refl, sym, ap, ◌∙◌, arith, subst, append_assoc, length-append, take-append-drop}
use Rattle.std.proofs.lemmas.List.{append-nil, length-take, length-drop, take_all, nil_from_length, get_or-append_right}
use Rattle.std.proofs.lemmas.Grind.{flat_map-append}
use Rattle.std.proofs.lemmas.Bool.{cases_eq, cases_lt, eq-eqb, ne_eqb}
use Rattle.std.specs.List.{flat_map, list_any, AllByRecursion}
use Rattle.dns_fields.specs.Bitmaps.{Block, block, IsBlock, has_type, contains, AllAbove, Rises, IsTypeSet}
use Rattle.dns_fields.proofs.Bitmaps.{none_great}
use Rattle.dns_check.specs.Blocks.{FitsBlock, NoBlock, AreBlocks, NoBlocks}
use Rattle.dns_check.specs.Blocks.{with_type, types_from}

block_length : (b : Block) (rest octets : List ℕ) → octets ≡ block b ++ rest → (length octets ≡ 2 + length b.1 + length rest)
    × (get_or octets 1 0 ≡ length b.1)
block_length b rest octets e = (omega (arith, ap length e, length-append b.1 rest), ap (λ (s : List ℕ). get_or s 1 0) e)

pub no_head : (octets : List ℕ) → length octets < 2 → NoBlock octets
no_head octets h = record { none = λ b rest is e. omega (arith, h, (block_length b rest octets e).0) }

pub no_octets : (octets : List ℕ) → get_or octets 1 0 < 1 → NoBlock octets
no_octets octets h = record { none = λ b rest is e. omega (arith, h, (block_length b rest octets e).1, is.some) }

pub many_octets : (octets : List ℕ) → 32 < get_or octets 1 0 → NoBlock octets
many_octets octets h = record { none = λ b rest is e. omega (arith, h, (block_length b rest octets e).1, is.most) }

pub few_octets : (octets : List ℕ) → length octets - 2 < get_or octets 1 0 → NoBlock octets
few_octets octets h = record { none = λ b rest is e. omega (arith, h, (block_length b rest octets e).0, (block_length b rest octets e).1) }

-- ---- all blocks

-- some blocks were taken, and the rest is left
pub record LeftBlocks (octets rest : List ℕ) : Type 0 where
  pub blocks : List Block
  pub fit : AllByRecursion IsBlock blocks
  pub front : octets ≡ flat_map block blocks ++ rest

abbrev pub left_all : (octets : List ℕ) → LeftBlocks octets octets
left_all octets = record { blocks = []; fit = tt; front = refl }

pub fit_more : (blocks : List Block) (b : Block) → AllByRecursion IsBlock blocks → IsBlock b → AllByRecursion IsBlock (blocks ++ b ∷ [])
fit_more [] b h f = (f, tt)
fit_more (x ∷ xs) b h f = (h.0, fit_more xs b h.1 f)

pub octet_left : {octets rest : List ℕ} → LeftBlocks octets rest → ((i : ℕ) → get_or octets i 0 < 256) → get_or rest 0 0 < 256
octet_left {octets} {rest} f small =
    let x = flat_map block f.blocks in
    let none : length x - length x ≡ 0 = omega arith in
    let here : get_or octets (length x) 0 ≡ get_or rest 0 0 = ap (λ (s : List ℕ). get_or s (length x) 0) f.front
    ∙ get_or-append_right x rest (length x) (length x) 0 refl (omega arith) ∙ rw none refl in
    omega (arith, small (length x), here)

-- the first block's parts, and the octets after it
pub block_front : (n : ℕ) (rest : List ℕ) → FitsBlock rest n → get_or rest 0 0 < 256
    → (rest ≡ block (get_or rest 0 0, take n (drop 2 rest)) ++ take (length rest - (2 + n)) (drop (2 + n) rest))
    × IsBlock (get_or rest 0 0, take n (drop 2 rest))
block_front n [] f small = absurd (omega (arith, f.head))
block_front n (a ∷ []) f small = absurd (omega (arith, f.head))
block_front n (a ∷ b ∷ xs) f small =
    let behind : 2 + n ≡ suc (suc n) = omega arith in
    let m : length (take n xs) ≡ n = omega (arith, length-take n xs, f.whole) in
    rw (behind, take_all (length (a ∷ b ∷ xs) - suc (suc n)) (drop n xs) (omega (arith, length-drop n xs))) (
      rw (m, ← f.count) (ap (λ (s : List ℕ). a ∷ b ∷ s) (sym (take-append-drop b xs))),
      record { number = small; some = omega (arith, m, f.some); most = omega (arith, m, f.most) },
    )

abbrev pub left_with : {octets rest : List ℕ} {n : ℕ} → LeftBlocks octets rest → FitsBlock rest n → ((i : ℕ) → get_or octets i 0 < 256)
    → LeftBlocks octets (take (length rest - (2 + n)) (drop (2 + n) rest))
left_with {octets} {rest} {n} f fits small =
    let g = block_front n rest fits (octet_left f small) in
    let b : Block = (get_or rest 0 0, take n (drop 2 rest)) in
    record {
      blocks = f.blocks ++ b ∷ [];
      fit = fit_more f.blocks b f.fit g.1;
      front = f.front ∙ ap (λ (s : List ℕ). flat_map block f.blocks ++ s) g.0 ∙ simp (flat_map-append, append_assoc, append-nil);
    }

abbrev pub are_blocks : {octets rest : List ℕ} → length rest ≡ 0 → LeftBlocks octets rest → AreBlocks octets
are_blocks {rest = rest} e f = record {
  blocks = f.blocks;
  fit = f.fit;
  spelled = f.front ∙ ap (λ (s : List ℕ). flat_map block f.blocks ++ s) (nil_from_length rest e) ∙ append-nil (flat_map block f.blocks);
}

same_parts : (x y a b : List ℕ) → length a ≡ length b → a ++ x ≡ b ++ y → x ≡ y
same_parts x y [] [] n e = e
same_parts x y [] (c ∷ b) n e = absurd (omega arith)
same_parts x y (c ∷ a) [] n e = absurd (omega arith)
same_parts x y (c ∷ a) (d ∷ b) n e = same_parts x y a b (omega arith) (ap (drop 1) e)

same_front : (a b : Block) (x y : List ℕ) → block a ++ x ≡ block b ++ y → x ≡ y
same_front a b x y e =
    let n : length a.1 ≡ length b.1 = ap (λ (s : List ℕ). get_or s 1 0) e in
    same_parts x y (block a) (block b) (omega (arith, n)) e

no_more : (done blocks : List Block) (rest : List ℕ) → flat_map block done ++ rest ≡ flat_map block blocks → AllByRecursion IsBlock blocks
    → 0 < length rest → NoBlock rest → ⊥
no_more [] [] rest e fit some none = omega (arith, ap length e)
no_more [] (b ∷ bs) rest e fit some none = none.none b (flat_map block bs) fit.0 e
no_more (d ∷ ds) [] rest e fit some none = let f : (block d ++ flat_map block ds) ++ rest ≡ [] = e in cc f
no_more (d ∷ ds) (b ∷ bs) rest e fit some none =
    no_more ds bs rest (same_front d b (flat_map block ds ++ rest) (flat_map block bs) (sym (append_assoc (block d) (flat_map block ds) rest)
    ∙ e)) fit.1 some none

pub no_blocks : {octets rest : List ℕ} → 0 < length rest → LeftBlocks octets rest → NoBlock rest → NoBlocks octets
no_blocks {rest = rest} some f none = record { none = λ blocks fit e. no_more f.blocks blocks rest (sym f.front ∙ e) fit some none }

-- ---- the set of the types of blocks

with_above : (b : Bool) (j k : ℕ) (l : List ℕ) → j < k → AllAbove j l → AllAbove j (with_type b k l)
with_above true j k l h a = (h, a)
with_above false j k l h a = a

from_above : (f : ℕ → Bool) (k n j : ℕ) → j < k → AllAbove j (types_from f k n)
from_above f k zero j h = tt
from_above f k (suc n) j h = with_above (f k) j k (types_from f (suc k) n) h (from_above f (suc k) n j (omega arith))

with_rises : (b : Bool) (k : ℕ) (l : List ℕ) → AllAbove k l → Rises l → Rises (with_type b k l)
with_rises true k l a r = (a, r)
with_rises false k l a r = r

from_rises : (f : ℕ → Bool) (k n : ℕ) → Rises (types_from f k n)
from_rises f k zero = tt
from_rises f k (suc n) = with_rises (f k) k (types_from f (suc k) n) (from_above f (suc k) n k (omega arith)) (from_rises f (suc k) n)

with_small : (m : ℕ) (b : Bool) (k : ℕ) (l : List ℕ) → k < m → AllByRecursion (λ t. t < m) l → AllByRecursion (λ t. t < m) (with_type b k l)
with_small m true k l h a = (h, a)
with_small m false k l h a = a

pub from_small : (m : ℕ) (f : ℕ → Bool) (k n : ℕ) → k + n ≤ m → AllByRecursion (λ t. t < m) (types_from f k n)
from_small m f k zero h = tt
from_small m f k (suc n) h = with_small m (f k) k (types_from f (suc k) n) (omega arith) (from_small m f (suc k) n (omega arith))

with_other : (b : Bool) (k : ℕ) (l : List ℕ) (t : ℕ) → (k ≡ t → ⊥) → contains t (with_type b k l) ≡ contains t l
with_other true k l t ne = rw (ne_eqb k t ne) refl
with_other false k l t ne = refl

with_same : (b : Bool) (k : ℕ) (l : List ℕ) → contains k l ≡ false → contains k (with_type b k l) ≡ b
with_same true k l h = rw (eq-eqb k k refl) refl
with_same false k l h = h

pub from_below : (f : ℕ → Bool) (k n t : ℕ) → t < k → contains t (types_from f k n) ≡ false
from_below f k zero t h = refl
from_below f k (suc n) t h = with_other (f k) k (types_from f (suc k) n) t (λ e. omega (arith, e)) ∙ from_below f (suc k) n t (omega arith)

pub from_has : (f : ℕ → Bool) (k n t : ℕ) → k ≤ t → t < k + n → contains t (types_from f k n) ≡ f t
from_has f k zero t a b = absurd (omega arith)
from_has f k (suc n) t a b = elim (cases_eq k t) [
  | inl e ↦ subst (λ (u : ℕ). contains u (types_from f k (suc n)) ≡ f u) e
      (with_same (f k) k (types_from f (suc k) n) (from_below f (suc k) n k (omega arith)))
  | inr ne ↦ with_other (f k) k (types_from f (suc k) n) t ne ∙ from_has f (suc k) n t (omega (arith, ne)) (omega arith)
]

no_type : (t : ℕ) (blocks : List Block) → 65536 ≤ t → AllByRecursion IsBlock blocks → list_any (has_type t) blocks ≡ false
unfolding has_type
no_type t [] h f = refl
no_type t (b ∷ bs) h f = rw (ne_eqb (t / 256) b.0 (λ e. omega (arith, e, f.0.number))) (no_type t bs h f.1)

-- the set of the types of blocks
pub record SetOf (blocks : List Block) : Type 0 where
  pub types : List ℕ
  pub set : IsTypeSet types
  pub same : (t : ℕ) → contains t types ≡ list_any (has_type t) blocks

below : (m : ℕ) (blocks : List Block) → ((t : ℕ) → m ≤ t → list_any (has_type t) blocks ≡ false) → m ≤ 65536 → SetOf blocks
below m blocks none h =
    let f : ℕ → Bool = λ t. list_any (has_type t) blocks in
    let numbers : AllByRecursion (λ t. t < m) (types_from f 0 m) = from_small m f 0 m (omega arith) in
    record {
      types = types_from f 0 m;
      set = record { rises = from_rises f 0 m; numbers = from_small 65536 f 0 m (omega arith) };
      same = λ t. elim (cases_lt t m) [
        | inl l ↦ from_has f 0 m t (omega arith) (omega (arith, l))
        | inr g ↦ none_great m (types_from f 0 m) t numbers g ∙ sym (none t g)
      ];
    }

pub set_of : (blocks : List Block) → AllByRecursion IsBlock blocks → SetOf blocks
set_of blocks fit = below 65536 blocks (λ t h. no_type t blocks h fit) (omega arith)
