-- The labels of a name, one after the other.
use Rattle.std.proofs.Common.{◌≡◌, ℕ, zero, suc, ◌+◌, ◌-◌, ◌*◌, ◌/◌, ◌%◌, ◌<◌, ◌≤◌, Bool, true, false}
use Rattle.std.proofs.Common.{List, [], ◌∷◌, ◌++◌, length, take, drop, get_or, append_assoc, refl, sym, ap, ◌∙◌, arith}
use Rattle.std.proofs.Math.Path.{fun_ext}
use Rattle.std.specs.Prelude.{◌==◌, nat_lt, nat_le, if◌then◌else◌}
use Rattle.std.proofs.lemmas.List.{length-append, length-drop, take_at, drop_at, append-nil, drop_more, drop-drop}
use Rattle.std.proofs.lemmas.Bool.{leb-true}
use Rattle.std.proofs.lemmas.Bool.Decides.{nat_tests}
use Rattle.dns_fields.specs.Labels.{DomainName, IsLabel, AreLabels, wire}
use Rattle.dns_fields.specs.Names.{IsNameIn, LabelsStand, LabelsStand.whole, LabelsStand.pointed, pointer}
use Rattle.dns_view.specs.LabelList.{pointed as jump, labels_after, labels_over, labels_at, labels_left}

-- ---- what the tests say

not_zero : (c : ℕ) → 1 ≤ c → (c == 0) ≡ false
not_zero c h = grind (arith, nat_tests)

below : (c n : ℕ) → c < n → nat_lt c n ≡ true
below c n h = grind (arith, nat_tests)

not_below : (c n : ℕ) → n ≤ c → nat_lt c n ≡ false
not_below c n h = grind (arith, nat_tests)

within : (c n : ℕ) → c ≤ n → nat_le c n ≡ true
within c n h = grind (arith, nat_tests)

not_within : (c n : ℕ) → n < c → nat_le c n ≡ false
not_within c n h = grind (arith, nat_tests)

-- ---- one octet

module _ (at : ℕ → List (List ℕ)) where
  behind : (n : ℕ) (s : List ℕ) → labels_after at n s ≡ labels_after at zero (drop n s)
  behind zero s = refl
  behind (suc n) [] = refl
  behind (suc n) (c ∷ s) = behind n s

  pub label_whole : (c : ℕ) (s : List ℕ) → 1 ≤ c → c < 64 → c ≤ length s → labels_after at zero (c ∷ s) ≡ take c s ∷ labels_after at zero (drop c s)
  label_whole c s some few fits = rw (not_zero c some, below c 64 few, within c (length s) fits, behind c s) refl

  pub label_short : (c : ℕ) (s : List ℕ) → c < 64 → length s < c → labels_after at zero (c ∷ s) ≡ []
  label_short c s few short = rw (not_zero c (omega (arith, short)), below c 64 few, not_within c (length s) short) refl

  pub no_size : (c : ℕ) (s : List ℕ) → 64 ≤ c → c < 192 → labels_after at zero (c ∷ s) ≡ []
  no_size c s high low = rw (not_zero c (omega (arith, high)), not_below c 64 high, below c 192 low) refl

  pub jumps : (c : ℕ) (s : List ℕ) → 192 ≤ c → labels_after at zero (c ∷ s) ≡ jump at c s
  jumps c s high = rw (not_zero c (omega (arith, high)), not_below c 64 (omega (arith, high)), not_below c 192 high) refl

  first_label : (label s : List ℕ) → IsLabel label → labels_after at zero (length label ∷ (label ++ s)) ≡ label ∷ labels_after at zero s
  first_label label s h =
      let n = length-append label s in
      label_whole (length label) (label ++ s) h.0 (omega (arith, h.1)) (omega arith)
      ∙ ap (λ (x : List ℕ). x ∷ labels_after at zero (drop (length label) (label ++ s))) (take_at label s (length label) refl)
      ∙ ap (λ (x : List ℕ). label ∷ labels_after at zero x) (drop_at label s (length label) refl)

  labels_then : (front : List (List ℕ)) (s : List ℕ) → AreLabels front → labels_after at zero (wire front ++ s) ≡ front ++ labels_after at zero s
  labels_then [] s h = refl
  labels_then (l ∷ front) s h =
      ap (λ (x : List ℕ). labels_after at zero (length l ∷ x)) (append_assoc l (wire front) s) ∙ first_label l (wire front ++ s) h.0
      ∙ ap (λ (x : List (List ℕ)). l ∷ x) (labels_then front s h.1)

  at_pointer : (t : ℕ) (s : List ℕ) → labels_after at zero (pointer t ++ s) ≡ at t
  at_pointer t s =
      let is : (192 + t / 256 - 192) * 256 + t % 256 ≡ t = omega arith in
      jumps (192 + t / 256) (t % 256 ∷ s) (omega arith) ∙ ap at is

-- ---- a name that is there

found_over : {m : List ℕ} {p end : ℕ} {labels : List (List ℕ)} (n : ℕ) → p < n → LabelsStand m p labels end → labels_over n m p ≡ labels
found_over {m} {p} {end} {labels} zero lt s = absurd (omega (arith, lt))
found_over {m} {p} {end} {labels} (suc n) lt (whole b are e ends) =
    let f : ℕ → List (List ℕ) = λ target. if nat_lt target p then labels_over n (take p m) target else [] in
    ap (labels_after f zero) e ∙ labels_then f labels (0 ∷ b) are ∙ append-nil labels
found_over {m} {p} {end} {labels} (suc n) lt (pointed front rest t re b are e small before r joined ends) =
    let f : ℕ → List (List ℕ) = λ target. if nat_lt target p then labels_over n (take p m) target else [] in
    let there : f t ≡ rest = rw (below t p before) (found_over n (omega (arith, before, lt)) r) in
    ap (labels_after f zero) e ∙ labels_then f front (pointer t ++ b) are ∙ ap (λ (x : List (List ℕ)). front ++ x) (at_pointer f t b ∙ there) ∙ sym joined

pub labels_found : {m : List ℕ} {p q : ℕ} {x : DomainName} → IsNameIn m p x q → labels_at m p ≡ x.labels
labels_found {p = p} is = found_over (suc p) (omega arith) is.stands

-- ---- so many pointers are enough

same_if : (b : Bool) (x y : List (List ℕ)) → (b ≡ true → x ≡ y) → (if b then x else []) ≡ (if b then y else [])
same_if true x y h = h refl
same_if false x y h = refl

-- both lead to the same labels
abbrev Alike : ℕ → ℕ → List ℕ → ℕ → Type 0
Alike n k m p = (t : ℕ) → t < p → labels_over n (take p m) t ≡ labels_over k (take p m) t

alike : (n k : ℕ) (m : List ℕ) (p : ℕ) → Alike n k m p → labels_over (suc n) m p ≡ labels_over (suc k) m p
alike n k m p same = ap (λ (f : ℕ → List (List ℕ)). labels_after f zero (drop p m)) (fun_ext (λ (t : ℕ).
    same_if (nat_lt t p) (labels_over n (take p m) t) (labels_over k (take p m) t) (λ lt. same t (leb-true (suc t) p lt))))

same_over : (n k : ℕ) (m : List ℕ) (p : ℕ) → p < n → p < k → labels_over n m p ≡ labels_over k m p
same_over zero k m p h l = absurd (omega (arith, h))
same_over (suc n) zero m p h l = absurd (omega (arith, l))
same_over (suc n) (suc k) m p h l = alike n k m p (λ t lt. same_over n k (take p m) t (omega (arith, lt, h)) (omega (arith, lt, l)))

-- ---- the steps of `next_label`

abbrev pub leads : List ℕ → ℕ → ℕ → List (List ℕ)
leads m start = λ target. if nat_lt target start then labels_over start (take start m) target else []

opened : (m : List ℕ) (start at : ℕ) → at < length m → labels_left m start at ≡ labels_after (leads m start) zero (get_or m at 0 ∷ drop (at + 1) m)
opened m start at lt = ap (labels_after (leads m start) zero) (drop_more m at 0 lt)

pub left_short : (m : List ℕ) (start at : ℕ) → at < length m → get_or m at 0 < 64 → length m - at - 1 < get_or m at 0 → labels_left m start at ≡ []
left_short m start at lt few short =
    opened m start at lt ∙ label_short (leads m start) (get_or m at 0) (drop (at + 1) m) few (omega (arith, short, length-drop (at + 1) m))

pub left_label : (m : List ℕ) (start at : ℕ) → at < length m → 1 ≤ get_or m at 0 → get_or m at 0 < 64 → get_or m at 0 ≤ length m - at - 1
    → labels_left m start at ≡ take (at + 1 + get_or m at 0 - (at + 1)) (drop (at + 1) m) ∷ labels_left m start (at + 1 + get_or m at 0)
left_label m start at lt some few fits =
    let c = get_or m at 0 in
    let size : at + 1 + c - (at + 1) ≡ c = omega arith in
    opened m start at lt ∙ label_whole (leads m start) c (drop (at + 1) m) some few (omega (arith, fits, lt, length-drop (at + 1) m))
    ∙ ap (λ (s : List ℕ). take c (drop (at + 1) m) ∷ labels_after (leads m start) zero s) (drop-drop c (at + 1) m)
    ∙ ap (λ (k : ℕ). take k (drop (at + 1) m) ∷ labels_left m start (at + 1 + c)) (sym size)

pub left_none : (m : List ℕ) (start at : ℕ) → at < length m → 64 ≤ get_or m at 0 → get_or m at 0 < 192 → labels_left m start at ≡ []
left_none m start at lt high low = opened m start at lt ∙ no_size (leads m start) (get_or m at 0) (drop (at + 1) m) high low

jumped : (m : List ℕ) (start at : ℕ) → at + 1 < length m → 192 ≤ get_or m at 0
    → labels_left m start at ≡ leads m start ((get_or m at 0 - 192) * 256 + get_or m (at + 1) 0)
jumped m start at lt high =
    opened m start at (omega (arith, lt)) ∙ jumps (leads m start) (get_or m at 0) (drop (at + 1) m) high
    ∙ ap (jump (leads m start) (get_or m at 0)) (drop_more m (at + 1) 0 lt)

pub left_pointer : (m : List ℕ) (start at : ℕ) → at + 1 < length m → 192 ≤ get_or m at 0 → (get_or m at 0 - 192) * 256 + get_or m (at + 1) 0 < start
    → labels_left m start at
    ≡ labels_left (take start m) ((get_or m at 0 - 192) * 256 + get_or m (at + 1) 0) ((get_or m at 0 - 192) * 256 + get_or m (at + 1) 0)
left_pointer m start at lt high before =
    let t = (get_or m at 0 - 192) * 256 + get_or m (at + 1) 0 in
    jumped m start at lt high ∙ ap (λ (b : Bool). if b then labels_over start (take start m) t else []) (below t start before)
    ∙ same_over start (suc t) (take start m) t before (omega arith)
