-- The types of a bitmap, one after the other.
use Rattle.std.proofs.Common.{◌≡◌, ℕ, zero, suc, ◌+◌, ◌-◌, ◌*◌, ◌/◌, ◌%◌, ◌<◌, ◌≤◌, ◌==◌, Bool, true, false, inl, inr, List, [], ◌∷◌, ◌++◌}
use Rattle.std.proofs.Common.{length, take, drop, get_or, refl, sym, ap, ◌∙◌, arith, length-append}
use Rattle.std.proofs.lemmas.List.{length-drop, take_all, take_at, drop_at, get_or_past}
use Rattle.std.proofs.lemmas.List.Folds.{list_any-append}
use Rattle.std.proofs.lemmas.Bool.{cases_lt, cases_eq, eq-eqb, ne_eqb, le-leb}
use Rattle.std.proofs.lemmas.Bool.Decides.{leb_tells}
use Rattle.std.proofs.lemmas.Nat.Bits.{bit_at-zero}
use Rattle.std.specs.{List.flat_map, List.list_any, List.AllByRecursion, Int.bit_at}
use Rattle.dns_fields.specs.Bitmaps.{Block, block, IsBlock, has_type, contains, BitmapAt}
use Rattle.dns_fields.proofs.Bitmaps.{none_great, bitmap_same}
use Rattle.dns_check.specs.Blocks.{FitsBlock, NoFit}
use Rattle.dns_check.specs.Blocks.{with_type, types_from}
use Rattle.dns_view.specs.TypeList.{types_left, block_types, types_after, ListsTypes}
use Rattle.dns_check.proofs.Bitmaps.{from_small, from_below, from_has}

-- ---- one block

more_types : (test : ℕ → Bool) (t n : ℕ) → 0 < n → types_from test t n ≡ with_type (test t) t (types_from test (t + 1) (n - 1))
more_types test t zero some = absurd (omega (arith, some))
more_types test t (suc n) some =
    let a : t + 1 ≡ suc t = omega arith in
    let b : suc n - 1 ≡ n = omega arith in
    rw (a, b) refl

bit_here : (k i : ℕ) (w : List ℕ) → i < 256 → has_type (256 * k + i) (k, w) ≡ (bit_at (get_or w (i / 8) 0) (7 - i % 8) == 1)
unfolding has_type
bit_here k i w small =
    let a : (256 * k + i) / 256 ≡ k = omega (arith, small) in
    let b : (256 * k + i) % 256 / 8 ≡ i / 8 = omega (arith, small) in
    let c : (256 * k + i) % 8 ≡ i % 8 = omega arith in
    rw (a, b, c, eq-eqb k k refl) refl

next_left : (k : ℕ) (w : List ℕ) (i : ℕ) (on : Bool) → length w ≤ 32 → i < 8 * length w
    → (bit_at (get_or w (i / 8) 0) (7 - i % 8) == 1) ≡ on → types_left (k, w) i ≡ with_type on (256 * k + i) (types_left (k, w) (i + 1))
next_left k w i on few inside is =
    let test : ℕ → Bool = λ t. has_type t (k, w) in
    let t = 256 * k + i in
    let a : t + 1 ≡ 256 * k + (i + 1) = omega arith in
    let b : 8 * length w - i - 1 ≡ 8 * length w - (i + 1) = omega arith in
    more_types test t (8 * length w - i) (omega (arith, inside))
    ∙ ap (λ (x : Bool). with_type x t (types_from test (t + 1) (8 * length w - i - 1))) (bit_here k i w (omega (arith, few, inside)) ∙ is)
    ∙ ap (λ (x : ℕ). with_type on t (types_from test x (8 * length w - i - 1))) a
    ∙ ap (λ (x : ℕ). with_type on t (types_from test (256 * k + (i + 1)) x)) b

pub bit_set : (k : ℕ) (w : List ℕ) (i : ℕ) → length w ≤ 32 → i < 8 * length w → bit_at (get_or w (i / 8) 0) (7 - i % 8) ≡ 1
    → types_left (k, w) i ≡ (256 * k + i) ∷ types_left (k, w) (i + 1)
bit_set k w i few inside set = next_left k w i true few inside (eq-eqb (bit_at (get_or w (i / 8) 0) (7 - i % 8)) 1 set)

pub bit_clear : (k : ℕ) (w : List ℕ) (i : ℕ) → length w ≤ 32 → i < 8 * length w → (bit_at (get_or w (i / 8) 0) (7 - i % 8) ≡ 1 → ⊥)
    → types_left (k, w) i ≡ types_left (k, w) (i + 1)
bit_clear k w i few inside clear = next_left k w i false few inside (ne_eqb (bit_at (get_or w (i / 8) 0) (7 - i % 8)) 1 clear)

-- ---- one block after the other

behind : (n : ℕ) (s : List ℕ) → types_after n s ≡ types_after zero (drop n s)
behind zero s = refl
behind (suc n) [] = refl
behind (suc n) (c ∷ s) = behind n s

first_types : (k n : ℕ) (s : List ℕ) → 1 ≤ n → n ≤ 32 → n ≤ length s
    → types_after zero (k ∷ (n ∷ s)) ≡ block_types (k, take n s) ++ types_after zero (drop n s)
first_types k n s some most whole = rw (le-leb 1 n some, le-leb n 32 most, le-leb n (length s) whole, behind n s) refl

-- the first block, if it is whole
pub fits_types : (n : ℕ) (rest : List ℕ) → FitsBlock rest n
    → types_after 0 rest ≡ block_types (get_or rest 0 0, take n (drop 2 rest)) ++ types_after 0 (take (length rest - (2 + n)) (drop (2 + n) rest))
fits_types n [] f = absurd (omega (arith, f.head))
fits_types n (a ∷ []) f = absurd (omega (arith, f.head))
fits_types n (a ∷ (b ∷ s)) f =
    let more : 2 + n ≡ suc (suc n) = omega arith in
    rw (more, take_all (length (a ∷ (b ∷ s)) - suc (suc n)) (drop n s) (omega (arith, length-drop n s)))
    (ap (λ (c : ℕ). types_after zero (a ∷ (c ∷ s))) f.count ∙ first_types a n s f.some f.most (omega (arith, f.whole)))

pub no_types : (rest : List ℕ) → NoFit rest → types_after 0 rest ≡ []
no_types [] none = refl
no_types (k ∷ []) none = refl
no_types (k ∷ (n ∷ s)) none = elim (leb_tells 1 n) [
  | inr h ↦ rw h.0 refl
  | inl some ↦ elim (leb_tells n 32) [
    | inr h ↦ rw (some.0, h.0) refl
    | inl most ↦ elim (leb_tells n (length s)) [
      | inr h ↦ rw (some.0, most.0, h.0) refl
      | inl whole ↦ absurd (none.none n (record {
        head = omega arith;
        count = refl;
        some = some.1;
        most = most.1;
        whole = omega (arith, whole.1);
      }))
    ]
  ]
]

pub all_types : (blocks : List Block) → AllByRecursion IsBlock blocks → types_after 0 (flat_map block blocks) ≡ flat_map block_types blocks
all_types [] fit = refl
all_types (b ∷ bs) fit =
    let rest = flat_map block bs in
    let n = length-append b.1 rest in
    first_types b.0 (length b.1) (b.1 ++ rest) fit.0.some fit.0.most (omega (arith, n))
    ∙ ap (λ (x : List ℕ). block_types (b.0, x) ++ types_after zero (drop (length b.1) (b.1 ++ rest))) (take_at b.1 rest (length b.1) refl)
    ∙ ap (λ (x : List ℕ). block_types b ++ types_after zero x) (drop_at b.1 rest (length b.1) refl)
    ∙ ap (λ (x : List ℕ). block_types b ++ x) (all_types bs fit.1)

-- ---- which types they are

other_window : (t : ℕ) (b : Block) → (t / 256 ≡ b.0 → ⊥) → has_type t b ≡ false
unfolding has_type
other_window t b ne = rw (ne_eqb (t / 256) b.0 ne) refl

past_octets : (t : ℕ) (b : Block) → 256 * b.0 + 8 * length b.1 ≤ t → has_type t b ≡ false
unfolding has_type
past_octets t b past = elim (cases_eq (t / 256) b.0) [
  | inr ne ↦ rw (ne_eqb (t / 256) b.0 ne) refl
  | inl e ↦ rw (get_or_past b.1 (t % 256 / 8) 0 (omega (arith, e, past)), bit_at-zero (7 - t % 8), eq-eqb (t / 256) b.0 e) refl
]

block_has : (b : Block) (t : ℕ) → contains t (block_types b) ≡ has_type t b
block_has b t =
    let test : ℕ → Bool = λ u. has_type u b in
    let from = 256 * b.0 + 0 in
    let n = 8 * length b.1 - 0 in
    elim (cases_lt t from) [
      | inl l ↦ from_below test from n t l ∙ sym (other_window t b (λ e. omega (arith, e, l)))
      | inr g ↦ elim (cases_lt t (from + n)) [
        | inl l ↦ from_has test from n t g l
        | inr past ↦ none_great (from + n) (types_from test from n) t (from_small (from + n) test from n (omega arith)) past
            ∙ sym (past_octets t b (omega (arith, past)))
      ]
    ]

blocks_have : (blocks : List Block) (t : ℕ) → contains t (flat_map block_types blocks) ≡ list_any (has_type t) blocks
blocks_have [] t = refl
blocks_have (b ∷ bs) t = simp (list_any-append, block_has b t, blocks_have bs t)

small_append : (xs ys : List ℕ) → AllByRecursion (λ t. t < 65536) xs → AllByRecursion (λ t. t < 65536) ys → AllByRecursion (λ t. t < 65536) (xs ++ ys)
small_append [] ys a b = b
small_append (x ∷ xs) ys a b = (a.0, small_append xs ys a.1 b)

all_small : (blocks : List Block) → AllByRecursion IsBlock blocks → AllByRecursion (λ t. t < 65536) (flat_map block_types blocks)
all_small [] fit = tt
all_small (b ∷ bs) fit = small_append (block_types b) (flat_map block_types bs)
    (from_small 65536 (λ t. has_type t b) (256 * b.0 + 0) (8 * length b.1 - 0) (omega (arith, fit.0.number, fit.0.most))) (all_small bs fit.1)

pub lists_types : {m : List ℕ} {p : ℕ} {v : List ℕ} {q : ℕ} (f : BitmapAt m p v q) → ListsTypes (flat_map block_types f.blocks) v
lists_types f = record {
  members = λ t. blocks_have f.blocks t ∙ sym (f.types t);
  rising = λ rises. bitmap_same (record {
    blocks = f.blocks;
    at = f.at;
    fit = f.fit;
    set = record { rises = rises; numbers = all_small f.blocks f.fit };
    types = blocks_have f.blocks;
  }) f;
}
