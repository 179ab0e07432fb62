-- Tokens by their index.
use Rattle.std.proofs.Common.{◌≡◌, ℕ, suc, ◌+◌, ◌-◌, ◌≤◌, false, List, [], ◌∷◌, length, Some, None, refl, sym, ◌∙◌, ap, subst, arith}
use Rattle.std.specs.List.{slice_get}
use Rattle.std.proofs.lemmas.Option.{slice_get-map}
use Rattle.dns_zone_tokens.specs.{Spans.Left, Spans.lefts_from, Spans.spans, Tokens.between}

abbrev all_left : List ℕ → List Left
all_left text = lefts_from (between 0 false) text

-- so many tokens of the text were passed, and these are left
abbrev pub Passed : List ℕ → ℕ → List Left → Type 0
Passed text n ys = (j : ℕ) → slice_get (all_left text) (n + j) ≡ slice_get ys j

-- none at the start
pub none_passed : (text : List ℕ) (ys : List Left) → ys ≡ lefts_from (between 0 false) text → Passed text 0 ys
none_passed text ys e j =
    let same : 0 + j ≡ j = omega arith in
    rw same (ap (λ (s : List Left). slice_get s j) (sym e))

-- one more
pub one_more : (text : List ℕ) (n : ℕ) (x : Left) (ys zs : List Left) → Passed text n ys → ys ≡ x ∷ zs → Passed text (n + 1) zs
one_more text n x ys zs so e j =
    let next : n + suc j ≡ n + 1 + j = omega arith in
    subst (λ (i : ℕ). slice_get (all_left text) i ≡ slice_get zs j) next (so (suc j) ∙ ap (λ (s : List Left). slice_get s (suc j)) e)

at_index : (text : List ℕ) (n index : ℕ) (ys : List Left) → Passed text n ys → n ≤ index → slice_get (all_left text) index ≡ slice_get ys (index - n)
at_index text n index ys so within =
    let there : n + (index - n) ≡ index = omega arith in
    subst (λ (i : ℕ). slice_get (all_left text) i ≡ slice_get ys (index - n)) there (so (index - n))

-- the text has no such token
pub none_there : (text : List ℕ) (n index : ℕ) (ys : List Left) → Passed text n ys → n ≤ index → ys ≡ [] → slice_get (spans text) index ≡ None
none_there text n index ys so within e =
    let at : slice_get (all_left text) index ≡ None = at_index text n index ys so within ∙ ap (λ (s : List Left). slice_get s (index - n)) e in
    slice_get-map (λ (left : Left). (length text - left.0, length text - left.1)) (all_left text) index ∙ rw at refl

-- it is this one
pub one_there : (text : List ℕ) (index : ℕ) (x : Left) (ys zs : List Left) → Passed text index ys → ys ≡ x ∷ zs
    → slice_get (spans text) index ≡ Some (length text - x.0, length text - x.1)
one_there text index x ys zs so e =
    let same : index + 0 ≡ index = omega arith in
    let at : slice_get (all_left text) index ≡ Some x =
    subst (λ (i : ℕ). slice_get (all_left text) i ≡ Some x) same (so 0 ∙ ap (λ (s : List Left). slice_get s 0) e) in
    slice_get-map (λ (left : Left). (length text - left.0, length text - left.1)) (all_left text) index ∙ rw at refl
