-- A record of no options comes first.
use Rattle.std.proofs.Common.{◌≡◌, ◌≢◌, ◌&&◌, ℕ, ◌<◌, ◌==◌, Bool, true, false, true≢false, List, [], ◌∷◌, length, map, refl, sym, ap, ◌∙◌, arith}
use Rattle.std.proofs.{lemmas.List.length-append, lemmas.Bool.Decides.nat_tests}
use Rattle.std.specs.{List.flat_map, Cmp.Lexicographic.nat_list_cmp_total, Cmp.Lexicographic.slice_cmp, Ordering.nat_cmp, Ordering.ordering_reverse}
use Rattle.std.specs.{declared.cmp.Ordering.Ordering, declared.cmp.Ordering.TheVariants.Less, declared.cmp.Ordering.TheVariants.Equal, declared.cmp.Ordering.TheVariants.Greater}
use Rattle.dns_fields.specs.{Fields.canonical, Fields.field_octets, Fields.option_tlvs, Tlvs.as_tlv, Tlvs.option_octets, Tlvs.tlv, Sorting.sorted}
use Rattle.dns_fields.proofs.{Sorted.octets_cmp, Sorted.length_sorted, Tlvs.length-tlv}
use Rattle.dns_canonical.specs.Fronts.{canonical_cmp}
use Rattle.dns_rdata_base.specs.Ordered.{IsOrder}
use Rattle.dns_rdata_options.specs.{OPT.Pair, OPT.opt_shape, OPT.opt_fields, OPT.pair_value, Order.opt_eq, Steps.pairs_emittable}

-- some options have octets
some_octets : (p : Pair) (ps : List Pair) → 0 < length (canonical opt_shape (opt_fields (p ∷ ps)))
unfolding field_octets
some_octets p ps =
    let x = tlv (as_tlv option_octets (pair_value p)) in
    let all = map tlv (option_tlvs (map pair_value (p ∷ ps))) in
    omega (
      arith,
      length-append (flat_map (λ s. s) (sorted octets_cmp all)) [],
      length_sorted octets_cmp all,
      length-append x (flat_map (λ s. s) (map tlv (option_tlvs (map pair_value ps)))),
      length-tlv (as_tlv option_octets (pair_value p)),
    )

before_some : (l : List ℕ) → 0 < length l → Less ≡ slice_cmp nat_cmp [] l
before_some [] h = absurd (omega (arith, h))
before_some (x ∷ l) h = refl

-- a record of no options comes before one of some
pub none_first : (a b : List Pair) → true ≡ (length a == 0) → false ≡ (length b == 0) → Less ≡ canonical_cmp opt_shape (opt_fields a) (opt_fields b)
unfolding field_octets
none_first [] [] n m = absurd (true≢false (sym m))
none_first [] (q ∷ qs) n m = before_some (canonical opt_shape (opt_fields (q ∷ qs))) (some_octets q qs)
none_first (p ∷ ps) b n m = absurd (above (length (p ∷ ps)) (omega arith) n)
  where
    above : (n : ℕ) → 0 < n → true ≡ (n == 0) → ⊥
    above n h e = grind (arith, nat_tests, h, e)

pub some_last : (a b : List Pair) → false ≡ (length a == 0) → true ≡ (length b == 0) → Greater ≡ canonical_cmp opt_shape (opt_fields a) (opt_fields b)
some_last a b n m =
    ap ordering_reverse (none_first b a m n) ∙ sym (nat_list_cmp_total.antisymm (canonical opt_shape (opt_fields a)) (canonical opt_shape (opt_fields b)))

pub opt_orders : (a b : List Pair) (o : Ordering) → pairs_emittable a ≡ true → pairs_emittable b ≡ true → o ≢ Equal
    → o ≡ canonical_cmp opt_shape (opt_fields a) (opt_fields b) → IsOrder opt_shape (opt_fields a) (opt_fields b) (opt_eq a b) o
opt_orders a b o f g n e = record {
  equal = λ t. absurd (n t);
  first = λ _. ap (λ (t : Bool). t && true) f;
  second = λ _. ap (λ (t : Bool). t && true) g;
  octets = λ _. e;
}
