-- Bitmaps in their shortest form, window by window.
use Rattle.std.proofs.Common.{◌≡◌, ◌≢◌, ◌↔◌, ℕ, zero, suc, ◌+◌, ◌-◌, ◌≤◌, ◌<◌, List, [], ◌∷◌, ◌++◌, length, take, drop, get_or, map, refl, sym, ap, ◌∙◌, arith, subst}
use Rattle.std.specs.List.{flat_map, AllByRecursion}
use Rattle.std.proofs.lemmas.List.{get_or-take, get_or-drop, length-take-le, length-drop}
use Rattle.std.proofs.lemmas.List.Elements.{All-from_get_or, All-get_or}
use Rattle.dns_fields.specs.Octets.{AreOctets}
use Rattle.dns_fields.proofs.OctetLaws.{AreOctets-take, AreOctets-drop}
use Rattle.dns_fields.specs.Bitmaps.{Block, block, IsBlock, AllAbove}
use Rattle.dns_check.specs.Blocks.{FitsBlock, NoBlock}
use Rattle.dns_check.proofs.Bitmaps.{block_front}
use Rattle.dns_registry.specs.FieldRules.{EndsInBit, AreShortest, IsShortestBitmap}

-- the octets are windows of a shortest bitmap whose numbers are not below `least`
pub record ShortestFrom (least : ℕ) (octets : List ℕ) : Type 0 where
  pub windows : List Block
  pub spelled : octets ≡ flat_map block windows
  pub shortest : AreShortest windows
  pub above : AllByRecursion (λ w. least ≤ w.0) windows

-- the whole is a shortest bitmap exactly if the rest is one from `least` on
pub record Left (octets rest : List ℕ) (least : ℕ) : Type 0 where
  pub whole : ShortestFrom least rest → IsShortestBitmap octets
  pub left : IsShortestBitmap octets → ShortestFrom least rest
  pub octets_are : AreOctets rest

from_none : (windows : List Block) → AllByRecursion (λ (w : Block). 0 ≤ w.0) windows
from_none [] = tt
from_none (w ∷ windows) = (omega arith, from_none windows)

pub left_whole : (octets : List ℕ) → ((i : ℕ) → get_or octets i 0 < 256) → Left octets octets 0
left_whole octets small = record {
  whole = λ s. record { windows = s.windows; spelled = s.spelled; shortest = s.shortest };
  left = λ s. record { windows = s.windows; spelled = s.spelled; shortest = s.shortest; above = from_none s.windows };
  octets_are = All-from_get_or (λ (octet : ℕ). octet < 256) octets 0 (λ i l. small i);
}

-- nothing is left
pub left_none : {octets rest : List ℕ} {least : ℕ} → Left octets rest least → length rest ≡ 0 → IsShortestBitmap octets
left_none {octets = octets} {rest = []} l e = l.whole (record {
  windows = [];
  spelled = refl;
  shortest = record { fit = tt; rise = tt; trimmed = tt };
  above = tt;
})
left_none {octets = octets} {rest = x ∷ rest} l e = absurd (omega (arith, e))

all_above : (n : ℕ) (windows : List Block) → AllByRecursion (λ (w : Block). n + 1 ≤ w.0) windows → AllAbove n (map (λ (w : Block). w.0) windows)
all_above n [] h = tt
all_above n (w ∷ windows) h = (omega (arith, h.0), all_above n windows h.1)

above_all : (n : ℕ) (windows : List Block) → AllAbove n (map (λ (w : Block). w.0) windows) → AllByRecursion (λ (w : Block). n + 1 ≤ w.0) windows
above_all n [] h = tt
above_all n (w ∷ windows) h = (omega (arith, h.0), above_all n windows h.1)

weaker : (m n : ℕ) (windows : List Block) → m ≤ n → AllByRecursion (λ (w : Block). n + 1 ≤ w.0) windows → AllByRecursion (λ (w : Block). m ≤ w.0) windows
weaker m n [] le h = tt
weaker m n (w ∷ windows) le h = (omega (arith, h.0, le), weaker m n windows le h.1)

pub same_parts : (x y a b : List ℕ) → length a ≡ length b → a ++ x ≡ b ++ y → (a ≡ b) × (x ≡ y)
same_parts x y [] [] n e = (refl, e)
same_parts x y [] (c ∷ b) n e = absurd (omega arith)
same_parts x y (c ∷ a) [] n e = absurd (omega arith)
same_parts x y (c ∷ a) (d ∷ b) n e =
    let s = same_parts x y a b (omega arith) (ap (drop 1) e) in
    let head : c ≡ d = ap (λ (l : List ℕ). get_or l 0 0) e in
    let tail = s.0 in
    (cc, s.1)

-- what octets begin with one window only
record SameFirst (a b : Block) (x y : List ℕ) : Type 0 where
  number : a.0 ≡ b.0
  octets : a.1 ≡ b.1
  after : x ≡ y

same_first : (a b : Block) (x y : List ℕ) → block a ++ x ≡ block b ++ y → SameFirst a b x y
same_first a b x y e =
    let n : length a.1 ≡ length b.1 = ap (λ (s : List ℕ). get_or s 1 0) e in
    let s = same_parts x y a.1 b.1 n (ap (drop 2) e) in
    record { number = ap (λ (l : List ℕ). get_or l 0 0) e; octets = s.0; after = s.1 }

-- of a window whose last octet is not 0
pub last_bit : (octets : List ℕ) (n : ℕ) → length octets ≡ suc n → EndsInBit octets ↔ (get_or octets n 0 ≢ 0)
last_bit [] n e = absurd (omega (arith, e))
last_bit (x ∷ []) zero e = ((λ h. h), (λ h. h))
last_bit (x ∷ []) (suc n) e = absurd (omega (arith, e))
last_bit (x ∷ (y ∷ octets)) zero e = absurd (omega (arith, e))
last_bit (x ∷ (y ∷ octets)) (suc n) e = last_bit (y ∷ octets) n (omega (arith, e))

-- the first window of the rest
module _ {octets rest : List ℕ} {least n : ℕ} (l : Left octets rest least) (fits : FitsBlock rest n) where
  small : get_or rest 0 0 < 256
  small = All-get_or (λ (octet : ℕ). octet < 256) rest 0 0 (omega (arith, fits.head)) l.octets_are

  first : Block
  first = (get_or rest 0 0, take n (drop 2 rest))

  after : List ℕ
  after = take (length rest - (2 + n)) (drop (2 + n) rest)

  is_first : (rest ≡ block first ++ after) × IsBlock first
  unfolding first after
  is_first = block_front n rest fits small

  -- what a shortest bitmap in the rest says of its first window
  record Begins : Type 0 where
    low : least ≤ first.0
    ends : EndsInBit first.1
    next : ShortestFrom (first.0 + 1) after

  begins_by : (windows : List Block) → rest ≡ flat_map block windows → AreShortest windows → AllByRecursion (λ (w : Block). least ≤ w.0) windows → Begins
  begins_by [] e s a = absurd (omega (arith, ap length e, fits.head))
  begins_by (w ∷ ws) e s a =
      let f = same_first w first (flat_map block ws) after (sym e ∙ is_first.0) in
      record {
        low = omega (arith, a.0, f.number);
        ends = subst EndsInBit f.octets s.trimmed.0;
        next = record {
          windows = ws;
          spelled = sym f.after;
          shortest = record { fit = s.fit.1; rise = s.rise.1; trimmed = s.trimmed.1 };
          above = subst (λ (i : ℕ). AllByRecursion (λ (w : Block). i + 1 ≤ w.0) ws) f.number (above_all w.0 ws s.rise.0);
        };
      }

  begins : ShortestFrom least rest → Begins
  begins s = begins_by s.windows s.spelled s.shortest s.above

  joins : least ≤ first.0 → EndsInBit first.1 → ShortestFrom (first.0 + 1) after → ShortestFrom least rest
  joins low ends s = record {
    windows = first ∷ s.windows;
    spelled = is_first.0 ∙ ap (λ (x : List ℕ). block first ++ x) s.spelled;
    shortest = record {
      fit = (is_first.1, s.shortest.fit);
      rise = (all_above first.0 s.windows s.above, s.shortest.rise);
      trimmed = (ends, s.shortest.trimmed);
    };
    above = (low, weaker least first.0 s.windows low s.above);
  }

  -- the last octet of the window
  last_is : get_or first.1 (n - 1) 0 ≡ get_or rest (1 + n) 0
  unfolding first
  last_is =
      let some = fits.some in
      let place : 2 + (n - 1) ≡ 1 + n = omega arith in
      get_or-take n (drop 2 rest) (n - 1) 0 (omega arith) ∙ get_or-drop 2 rest (n - 1) 0 ∙ ap (λ (i : ℕ). get_or rest i 0) place

  size : length first.1 ≡ suc (n - 1)
  unfolding first
  size = omega (arith, length-take-le n (drop 2 rest) (omega (arith, length-drop 2 rest, fits.whole)), fits.some)

  pub left_with : least ≤ get_or rest 0 0 → get_or rest (1 + n) 0 ≢ 0 → Left octets (take (length rest - (2 + n)) (drop (2 + n) rest)) (get_or rest 0 0 + 1)
  unfolding first after
  left_with low bit = record {
    whole = λ s. l.whole (joins low ((last_bit first.1 (n - 1) size).1 (λ e. bit (sym last_is ∙ e))) s);
    left = λ s. (begins (l.left s)).next;
    octets_are = AreOctets-take (length rest - (2 + n)) (drop (2 + n) rest) (AreOctets-drop (2 + n) rest l.octets_are);
  }

  pub falls : get_or rest 0 0 < least → IsShortestBitmap octets → ⊥
  unfolding first
  falls less s = omega (arith, (begins (l.left s)).low, less)

  pub ends_zero : get_or rest (1 + n) 0 ≡ 0 → IsShortestBitmap octets → ⊥
  ends_zero none s = (last_bit first.1 (n - 1) size).0 (begins (l.left s)).ends (last_is ∙ none)

-- no window is there
pub no_window : {octets rest : List ℕ} {least : ℕ} → Left octets rest least → 0 < length rest → NoBlock rest → IsShortestBitmap octets → ⊥
no_window {octets} {rest} {least} l some none s = let x = l.left s in from x.windows x.spelled x.shortest
  where
    from : (windows : List Block) → rest ≡ flat_map block windows → AreShortest windows → ⊥
    from [] e t = omega (arith, ap length e, some)
    from (w ∷ ws) e t = none.none w (flat_map block ws) t.fit.0 e
