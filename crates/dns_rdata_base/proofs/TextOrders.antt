-- Lists of character strings, compared string by string.
use Rattle.std.proofs.Common.{◌≡◌, ℕ, ◌+◌, ◌-◌, ◌<◌, ◌≤◌, min, true, false, List, [], ◌∷◌, length, drop, get_or, sym, ap, ◌∙◌, arith}
use Rattle.std.proofs.lemmas.List.{drop_more, length-drop}
use Rattle.std.specs.{List.flat_map, Cmp.nat_cmp_is, Cmp.Lexicographic.slice_cmp, Ordering.nat_cmp, Ordering.ordering_then, Ordering.is_ne}
use Rattle.std.specs.declared.cmp.Ordering.{Ordering, TheVariants.Less, TheVariants.Equal, TheVariants.Greater}
use Rattle.dns_fields.specs.Tlvs.{string}
use Rattle.dns_canonical.proofs.Fronts.{sized_then}

abbrev pub texts_cmp : List (List ℕ) → List (List ℕ) → Ordering
texts_cmp ss ts = slice_cmp nat_cmp (flat_map string ss) (flat_map string ts)

first_text : (s t : List ℕ) (ss ts : List (List ℕ)) → texts_cmp (s ∷ ss) (t ∷ ts) ≡ ordering_then (slice_cmp nat_cmp (string s) (string t)) (texts_cmp ss ts)
first_text s t ss ts = sized_then (length s) (length t) s t (flat_map string ss) (flat_map string ts) (λ e. e)

-- the strings at an index, and those after them
at_index : (i : ℕ) (s t : List ℕ) (ss ts : List (List ℕ)) → i < length ss → i < length ts → s ≡ get_or ss i s → t ≡ get_or ts i t
    → texts_cmp (drop i ss) (drop i ts) ≡ ordering_then (slice_cmp nat_cmp (string s) (string t)) (texts_cmp (drop (i + 1) ss) (drop (i + 1) ts))
at_index i s t ss ts h k e f = rw (apart i s ss h e, apart i t ts k f) (first_text s t (drop (i + 1) ss) (drop (i + 1) ts))
  where
    apart : (i : ℕ) (s : List ℕ) (ss : List (List ℕ)) → i < length ss → s ≡ get_or ss i s → drop i ss ≡ s ∷ drop (i + 1) ss
    apart i s ss h e = drop_more ss i s h ∙ ap (λ (z : List ℕ). z ∷ drop (i + 1) ss) (sym e)

-- strings that differ decide
pub texts_differ : (i : ℕ) (s t : List ℕ) (ss ts : List (List ℕ)) (o : Ordering) → i < length ss → i < length ts → s ≡ get_or ss i s → t ≡ get_or ts i t
    → o ≡ slice_cmp nat_cmp (string s) (string t) → is_ne o ≡ true → o ≡ texts_cmp (drop i ss) (drop i ts)
texts_differ i s t ss ts o h k e f g n =
    let rest = texts_cmp (drop (i + 1) ss) (drop (i + 1) ts) in
    let decided : o ≡ ordering_then o rest = grind arith in
    decided ∙ ap (λ (q : Ordering). ordering_then q rest) g ∙ sym (at_index i s t ss ts h k e f)

-- and others leave it to those behind them
pub texts_same : (i : ℕ) (s t : List ℕ) (ss ts : List (List ℕ)) (o : Ordering) → i < length ss → i < length ts → s ≡ get_or ss i s → t ≡ get_or ts i t
    → o ≡ slice_cmp nat_cmp (string s) (string t) → is_ne o ≡ false → texts_cmp (drop (i + 1) ss) (drop (i + 1) ts) ≡ texts_cmp (drop i ss) (drop i ts)
texts_same i s t ss ts o h k e f g n =
    let rest = texts_cmp (drop (i + 1) ss) (drop (i + 1) ts) in
    let decided : rest ≡ ordering_then o rest = grind arith in
    decided ∙ ap (λ (q : Ordering). ordering_then q rest) g ∙ sym (at_index i s t ss ts h k e f)

-- where one list has ended, the number of strings decides
pub texts_end : (i n : ℕ) (ss ts : List (List ℕ)) → n ≡ min (length ss) (length ts) → n ≤ i → i ≤ n
    → nat_cmp (length ss) (length ts) ≡ texts_cmp (drop i ss) (drop i ts)
texts_end i n ss ts m past within = by (drop i ss) (drop i ts) (length-drop i ss) (length-drop i ts)
  where
    by : (x y : List (List ℕ)) → length x ≡ length ss - i → length y ≡ length ts - i → nat_cmp (length ss) (length ts) ≡ texts_cmp x y
    by [] [] e f = sym (nat_cmp_is (length ss) (length ts) Equal (omega (arith, e, f, m, past, within)))
    by [] (t ∷ y) e f = sym (nat_cmp_is (length ss) (length ts) Less (omega (arith, e, f, m, past, within)))
    by (s ∷ x) [] e f = sym (nat_cmp_is (length ss) (length ts) Greater (omega (arith, e, f, m, past, within)))
    by (s ∷ x) (t ∷ y) e f = absurd (omega (arith, e, f, m, past, within))
