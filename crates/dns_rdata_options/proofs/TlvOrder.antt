-- The order of the octets of options, and of lists that they begin.
use Rattle.std.proofs.Common.{Some, ◌≡◌, ℕ, ◌<◌, ◌^◌, nat_le, true, List, [], ◌∷◌, ◌++◌, length, map, count_by, refl, sym, ap, ◌∙◌}
use Rattle.std.specs.{Ordering.is_eq, Ordering.eq_by_cmp, Ordering.ordering_then, List.flat_map, List.AllByRecursion, Int.bytes_high_first}
use Rattle.std.specs.{Cmp.first_so, Cmp.second_so, Cmp.Lexicographic.slice_cmp}
use Rattle.dns_fields.specs.{declared.Kind.TheVariants.Options, Fields.field_octets, Fields.option_tlvs, Tlvs.tlv, Tlvs.option_octets, Sorting.sorted}
use Rattle.dns_fields.proofs.{Multisets.count_sorted, Multisets.sorted_risen, Multisets.same_counts, Sorted.sorted_all, Sorted.map_sorted, Sorted.flat_map_all}
use Rattle.dns_fields.proofs.{Tlvs.parts, Tlvs.number_first, Tlvs.tlv_before, Numbers.length-bytes}
use Rattle.dns_canonical.specs.Fronts.{canonical_cmp}
use Rattle.dns_canonical.proofs.Fronts.{alone}
use Rattle.dns_rdata_options.specs.{Steps.octets_cmp, Steps.tlv_cmp, Steps.own_tlv, Steps.pair_emittable, Steps.pairs_emittable, EdnsCode.edns_code_number}
use Rattle.dns_rdata_options.specs.{OPT.Pair, OPT.pair_value, OPT.opt_shape, OPT.opt_fields, Order.pair_cmp, Order.risen, Order.opt_eq, EdnsOption.option_value}
use Rattle.dns_rdata_options.specs.OrderLaws.{pair_total, opt_ties}
use Rattle.dns_rdata_options.proofs.Pairs.{is_short}
use Rattle.dns_canonical.proofs.Sorting.{free_then}

same_tlv : (c d : ℕ) (s t u v : List ℕ) → length s < 256 ^ 2 → length t < 256 ^ 2 → tlv (c, s) ++ u ≡ tlv (d, t) ++ v → tlv (c, s) ≡ tlv (d, t)
same_tlv c d s t u v h k e =
    let f = parts (bytes_high_first 2 c) _ (bytes_high_first 2 d) _ (length-bytes 2 c ∙ sym (length-bytes 2 d)) (sym (tlv_before (c, s) u) ∙ e ∙ tlv_before (d, t) v) in
    let g = number_first (length s) (length t) (s ++ u) (t ++ v) h k f.1 in
    let o = parts s u t v g.0 g.1 in
    λ i. f.0 i ++ (bytes_high_first 2 (length (o.0 i)) ++ o.0 i)

-- ---- pairs

-- what a pair holds
abbrev pub held : Pair → List ℕ
held p = option_octets (option_value p.1)

few_octets : (p : Pair) → pair_emittable p ≡ true → length (held p) < 256 ^ 2
few_octets p h = is_short (length (held p)) (first_so (nat_le (length (held p)) 65535) _ h)

pub pairs_then : (p q : Pair) (u v : List ℕ) → pair_emittable p ≡ true → pair_emittable q ≡ true
    → octets_cmp (own_tlv p ++ u) (own_tlv q ++ v) ≡ ordering_then (octets_cmp (own_tlv p) (own_tlv q)) (octets_cmp u v)
pairs_then p q u v e f = free_then (own_tlv p) (own_tlv q) u v (λ r s. same_tlv (edns_code_number p.0) (edns_code_number q.0) (held p) (held q) r s (few_octets p e) (few_octets q f))

-- ---- lists

-- each pair can be emitted
abbrev AllEmittable : List Pair → Type 0
AllEmittable x = AllByRecursion (λ p. pair_emittable p ≡ true) x

each_emittable : (x : List Pair) → pairs_emittable x ≡ true → AllEmittable x
each_emittable [] h = tt
each_emittable (p ∷ x) h = (first_so (pair_emittable p) (pairs_emittable x) h, each_emittable x (second_so (pair_emittable p) (pairs_emittable x) h))

-- the octets of the options in order
pub in_order : (x : List Pair) → flat_map (λ s. s) (sorted octets_cmp (map tlv (option_tlvs (map pair_value x)))) ≡ flat_map own_tlv (sorted tlv_cmp x)
in_order x = ap (λ (l : List (List ℕ)). flat_map (λ s. s) (sorted octets_cmp l)) (of_pairs x) ∙ ap (flat_map (λ s. s)) (sym (map_sorted octets_cmp own_tlv x))
    ∙ flat_map_all own_tlv (sorted tlv_cmp x)
  where
    of_pairs : (x : List Pair) → map tlv (option_tlvs (map pair_value x)) ≡ map own_tlv x
    of_pairs [] = refl
    of_pairs (p ∷ x) = ap (λ (l : List (List ℕ)). own_tlv p ∷ l) (of_pairs x)

-- pairs in a row are ordered by the first ones whose octets differ
rows_cmp : (x y : List Pair) → AllEmittable x → AllEmittable y → slice_cmp tlv_cmp x y ≡ octets_cmp (flat_map own_tlv x) (flat_map own_tlv y)
rows_cmp [] [] h k = refl
rows_cmp [] (q ∷ y) h k = refl
rows_cmp (p ∷ x) (q ∷ y) h k =
    ap (ordering_then (tlv_cmp p q)) (rows_cmp x y h.1 k.1) ∙ sym (pairs_then p q (flat_map own_tlv x) (flat_map own_tlv y) h.0 k.0)
rows_cmp x y h k = refl

-- records of options are ordered by their pairs in rising order
pub by_tlvs : (xs ys : List Pair) → pairs_emittable xs ≡ true → pairs_emittable ys ≡ true
    → slice_cmp tlv_cmp (sorted tlv_cmp xs) (sorted tlv_cmp ys) ≡ canonical_cmp opt_shape (opt_fields xs) (opt_fields ys)
unfolding field_octets
by_tlvs xs ys h k =
    rows_cmp (sorted tlv_cmp xs) (sorted tlv_cmp ys) (sorted_all tlv_cmp (λ p. pair_emittable p ≡ true) xs (each_emittable xs h))
    (sorted_all tlv_cmp (λ p. pair_emittable p ≡ true) ys (each_emittable ys k))
    ∙ (λ i. octets_cmp (sym (in_order xs) i) (sym (in_order ys) i))
    ∙ alone Options (map pair_value xs) (map pair_value ys)

-- and are equal where these pairs are the same
pub same_equal : (xs ys : List Pair) → sorted tlv_cmp xs ≡ sorted tlv_cmp ys → opt_eq xs ys ≡ true
same_equal xs ys e =
    let E = eq_by_cmp pair_cmp in
    opt_ties xs ys ∙ ap is_eq (same_counts pair_cmp pair_total (risen xs) (risen ys) (sorted_risen pair_cmp pair_total xs) (sorted_risen pair_cmp pair_total ys)
    (λ w. count_sorted pair_cmp (E w) xs ∙ sym (count_sorted tlv_cmp (E w) xs) ∙ ap (count_by (E w)) e ∙ count_sorted tlv_cmp (E w) ys ∙ sym (count_sorted pair_cmp (E w) ys)))

-- what `Some` holds
pub some_same : {X : Type 0} {a b : X} → Some a ≡ Some b → a ≡ b
some_same e = cc e
