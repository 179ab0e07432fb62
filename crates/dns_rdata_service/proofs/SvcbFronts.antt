-- Service bindings, compared field by field and parameter by parameter.
use Rattle.std.proofs.Common.{◌≡◌, ◌≢◌, ℕ, ◌<◌, ◌≤◌, ◌^◌, ◌&&◌, true, false, true≢false, List, [], ◌∷◌, ◌++◌, length, drop, map, refl, sym, ◌-◌, min}
use Rattle.std.proofs.{lemmas.List.drop_all, lemmas.List.length-drop, Common.ap, Common.◌∙◌, Common.arith, lemmas.Bool.Decides.Decides-and}
use Rattle.std.specs.declared.cmp.Ordering.TheVariants.{Less, Equal, Greater}
use Rattle.std.specs.{Ordering.MatchOrdering, Ordering.nat_cmp, Ordering.ordering_then, Ordering.is_eq, Ordering.is_ne, Cmp.Derive.Mapped.lex_map}
use Rattle.std.specs.{Cmp.Lexicographic.pointwise, Cmp.Lexicographic.slice_cmp, Cmp.Lexicographic.pointwise_decides, declared.cmp.Ordering.Ordering}
use Rattle.std.specs.{Cmp.Equal-is, Cmp.ranks, Cmp.unsigned_Decides, Cmp.booleans_Decides, Cmp.nat_cmp_is, List.AllByRecursion, List.flat_map}
use Rattle.std.specs.{FinMap.nat_cmp-IsAntisymmetric, FinMap.slice_cmp-IsAntisymmetric, Int.bytes_high_first, Prelude.nat_eq}
use Rattle.dns_fields.specs.{Tlvs.string, Tlvs.Alpn, Tlvs.Opaque, Tlvs.Port, Equal.key_eq, Equal.parameter_keys, Equal.values_eq, Comparing.name_eq}
use Rattle.dns_fields.specs.{declared.Kind.TheVariants.Number, declared.Kind.TheVariants.Name, Fields.field_octets, Labels.AreLabels, Labels.lowname}
use Rattle.dns_fields.proofs.Numbers.{number_cmp, length-bytes, same_number}
use Rattle.dns_canonical.specs.Fronts.{canonical_cmp, field_cmp}
use Rattle.dns_canonical.proofs.{Comparing.cmp_shared, Comparing.then_kept, Comparing.then_equal, Comparing.both_equal, Fronts.fields_decide, Fronts.front_then}
use Rattle.dns_rdata_service.proofs.OwnValues.{value_given}
use Rattle.dns_rdata_service.specs.{ParameterOrder.OrderFirst, ParameterOrder.joined, ParameterOrder.behind_length, Steps.parameters_from}
use Rattle.dns_rdata_service.specs.SvcParamValue.{value_key, value_of, sized, key_numbers, value_rank, Differ}
use Rattle.dns_rdata_service.specs.{SVCB.svcb_shape, SVCB.svcb_fields, SVCB.svcb_key_shape, SVCB.svcb_keys, declared.svcb.key.SvcParamKey.SvcParamKey}
use Rattle.dns_rdata_service.specs.{declared.svcb.value.SvcParamValue.SvcParamValue, SvcParamKey.key_number, SvcParamKey.key_variant}
use Rattle.dns_rdata_service.specs.{Parameters.Parameter, Parameters.own_parameter, OwnKeys.value_eq, OwnKeys.value_same, declared.svcb.SVCB.SVCB}
use Rattle.dns_rdata_base.specs.Numbered.{numbered_cmp}
use Rattle.dns_rdata_service.specs.declared.svcb.value.SvcParamValue.TheVariants as variants

-- ---- octets before others

-- after the same octets, those that follow decide
pub alike_first : (o : Ordering) (s t : List ℕ) → o ≡ Equal → s ≡ t → OrderFirst o s t
alike_first o s t e f x y = rw e (cmp_shared {n = length s} record {
  shared = s;
  count = refl;
  left = refl;
  right = ap (λ (r : List ℕ). r ++ y) (sym f);
})

-- numbers in as many octets
number_first : (o : Ordering) (w a b : ℕ) → o ≡ nat_cmp a b → a < 256 ^ w → b < 256 ^ w → OrderFirst o (bytes_high_first w a) (bytes_high_first w b)
number_first o w a b e p q x y =
    front_then (bytes_high_first w a) (bytes_high_first w b) x y (length-bytes w a ∙ sym (length-bytes w b))
    ∙ ap (λ (u : Ordering). ordering_then u (slice_cmp nat_cmp x y)) (number_cmp w a b p q ∙ sym e)

-- a length in two octets, and the octets
sized_first : (s t : List ℕ) → length s ≤ 65535 → length t ≤ 65535
    → OrderFirst (ordering_then (nat_cmp (length s) (length t)) (slice_cmp nat_cmp s t)) (behind_length s) (behind_length t)
sized_first s t h k x y =
    number_first (nat_cmp (length s) (length t)) 2 (length s) (length t) refl (omega arith) (omega arith) (s ++ x) (t ++ y)
    ∙ by (nat_cmp (length s) (length t)) (ranks (length s) (length t))
  where
    by : (o : Ordering) → MatchOrdering o (length s < length t) (length s ≡ length t) (length t < length s)
        → ordering_then o (slice_cmp nat_cmp (s ++ x) (t ++ y)) ≡ ordering_then (ordering_then o (slice_cmp nat_cmp s t)) (slice_cmp nat_cmp x y)
    by Less e = refl
    by Equal e = front_then s t x y e
    by Greater e = refl

-- by two numbers, and then by octets of which these are the lengths
pub lengths_first : (r c o : Ordering) (n m : ℕ) (s t : List ℕ) → r ≡ ordering_then c o → c ≡ nat_cmp n m → n ≡ length s → m ≡ length t
    → o ≡ slice_cmp nat_cmp s t
    → n ≤ 65535 → m ≤ 65535 → OrderFirst r (behind_length s) (behind_length t)
lengths_first r c o n m s t e f p q g h k = rw (e, f, g, p, q) (sized_first s t (omega (arith, p, h)) (omega (arith, q, k)))

-- ---- orders that tie

pub then_ties : (r o p : Ordering) → r ≡ ordering_then o p → r ≡ Equal → p ≡ Equal
then_ties r o p e f = (both_equal o p (sym e ∙ f)).1

pub ne_no : (o : Ordering) → is_ne o ≡ false → o ≡ Equal
ne_no Less h = absurd (true≢false h)
ne_no Equal h = refl
ne_no Greater h = absurd (true≢false h)

pub ne_yes : (o : Ordering) → is_ne o ≡ true → o ≢ Equal
ne_yes o h e = absurd (true≢false (sym h ∙ ap is_ne e))

-- octets that tie are the same
pub octets_tie : (o : Ordering) (s t : List ℕ) → o ≡ slice_cmp nat_cmp s t → o ≡ Equal → s ≡ t
octets_tie o s t e f = slice_cmp-IsAntisymmetric nat_cmp-IsAntisymmetric s t (sym e ∙ f)

pub lists_tie : (o : Ordering) (ss ts : List (List ℕ)) → o ≡ slice_cmp (slice_cmp nat_cmp) ss ts → o ≡ Equal → ss ≡ ts
lists_tie o ss ts e f = slice_cmp-IsAntisymmetric (slice_cmp-IsAntisymmetric nat_cmp-IsAntisymmetric) ss ts (sym e ∙ f)

-- ---- lists of as many octets each

module _ (k : ℕ) where
  abbrev Each : List (List ℕ) → Type 0
  Each ss = AllByRecursion (λ s. length s ≡ k) ss

  joined_cmp : (ss ts : List (List ℕ)) → 0 < k → Each ss → Each ts → slice_cmp nat_cmp (joined ss) (joined ts) ≡ slice_cmp (slice_cmp nat_cmp) ss ts
  joined_cmp [] [] some h g = refl
  joined_cmp [] (t ∷ ts) some h g = by t (omega (arith, g.0, some))
    where
      by : (t : List ℕ) → 0 < length t → slice_cmp nat_cmp [] (t ++ joined ts) ≡ Less
      by [] e = absurd (omega arith)
      by (u ∷ t) e = refl
  joined_cmp (s ∷ ss) [] some h g = by s (omega (arith, h.0, some))
    where
      by : (s : List ℕ) → 0 < length s → slice_cmp nat_cmp (s ++ joined ss) [] ≡ Greater
      by [] e = absurd (omega arith)
      by (u ∷ s) e = refl
  joined_cmp (s ∷ ss) (t ∷ ts) some h g =
      front_then s t (joined ss) (joined ts) (h.0 ∙ sym g.0)
      ∙ ap (λ (o : Ordering). ordering_then (slice_cmp nat_cmp s t) o) (joined_cmp ss ts some h.1 g.1)

-- by their octets' number, and then item by item
pub items_first : {X : Type 0} (octets_of : X → List ℕ) (k : ℕ) (xs ys : List X) (r c o : Ordering) (n m : ℕ) → 0 < k
    → AllByRecursion (λ s. length s ≡ k) (map octets_of xs) → AllByRecursion (λ s. length s ≡ k) (map octets_of ys)
    → r ≡ ordering_then c o → c ≡ nat_cmp n m → n ≡ length (joined (map octets_of xs)) → m ≡ length (joined (map octets_of ys))
    → o ≡ slice_cmp (slice_cmp nat_cmp) (map octets_of xs) (map octets_of ys) → n ≤ 65535 → m ≤ 65535
    → OrderFirst r (behind_length (joined (map octets_of xs))) (behind_length (joined (map octets_of ys)))
items_first octets_of k xs ys r c o n m some h g e f p q i few less = lengths_first r c o n m _ _ e f p q (i ∙ sym (joined_cmp k _ _ some h g)) few less

-- or they are the same
pub items_alike : {X : Type 0} (octets_of : X → List ℕ) (xs ys : List X) (o : Ordering)
    → o ≡ slice_cmp (slice_cmp nat_cmp) (map octets_of xs) (map octets_of ys)
    → is_eq o ≡ true → OrderFirst o (behind_length (joined (map octets_of xs))) (behind_length (joined (map octets_of ys)))
items_alike octets_of xs ys o e h =
    let tie = (Equal-is o).0 h in alike_first o _ _ tie (ap (λ l. behind_length (joined l)) (lists_tie o (map octets_of xs) (map octets_of ys) e tie))

-- ---- parameters

pub port_first : (o : Ordering) (a b : ℕ) → o ≡ nat_cmp a b → a < 256 ^ 2 → b < 256 ^ 2 → OrderFirst o (sized (Port a)) (sized (Port b))
port_first o a b e p q =
    rw (e ∙ sym (number_cmp 2 a b p q)) (sized_first (bytes_high_first 2 a) (bytes_high_first 2 b) (omega arith) (omega arith))

-- octets, and then by them
pub octets_first : (r c : Ordering) (s t : List ℕ) → r ≡ ordering_then c (slice_cmp nat_cmp s t) → c ≡ nat_cmp (length s) (length t) → length s ≤ 65535
    → length t ≤ 65535 → OrderFirst r (sized (Opaque s)) (sized (Opaque t))
octets_first r c s t e f h k = rw (e, f) (sized_first s t h k)

pub names_same : (a b : List (List ℕ)) → pointwise (pointwise nat_eq) a b ≡ true → a ≡ b
names_same a b e = (pointwise_decides (pointwise_decides unsigned_Decides) a b).0 e

-- names of protocols that are the same, or differ in their octets' number
pub names_alike : (a b : List (List ℕ)) → pointwise (pointwise nat_eq) a b ≡ true → OrderFirst Equal (sized (Alpn a)) (sized (Alpn b))
names_alike a b e = alike_first Equal (sized (Alpn a)) (sized (Alpn b)) refl (ap (λ l. sized (Alpn l)) (names_same a b e))

pub names_differ : (o : Ordering) (n m : ℕ) (a b : List (List ℕ)) → o ≡ nat_cmp n m → is_ne o ≡ true → n ≡ length (flat_map string a)
    → m ≡ length (flat_map string b) → n ≤ 65535 → m ≤ 65535 → OrderFirst o (sized (Alpn a)) (sized (Alpn b))
names_differ o n m a b e ne p q h k =
    lengths_first o o (slice_cmp nat_cmp (flat_map string a) (flat_map string b)) n m (flat_map string a) (flat_map string b) (then_kept o _ (ne_yes o ne)) e p q refl h k

-- equal values are compared by the same
pub equal_values : (v w : SvcParamValue) → value_eq v w ≡ true → value_key v ≡ value_key w
equal_values v w h = (pointwise_decides (pointwise_decides unsigned_Decides) (value_key v) (value_key w)).0 (sym (value_same v w) ∙ h)

pub equal_first : (v w : SvcParamValue) → value_eq v w ≡ true → OrderFirst Equal (sized (value_of v)) (sized (value_of w))
equal_first v w h = alike_first Equal (sized (value_of v)) (sized (value_of w)) refl (ap sized (value_given v w (equal_values v w h)))

abbrev pub rest_cmp : List Parameter → List Parameter → ℕ → Ordering
rest_cmp ps qs i = slice_cmp nat_cmp (parameters_from ps i) (parameters_from qs i)

-- ---- all fields

-- priority and target, and then all parameters
pub parameters_behind : (a b : SVCB) (o : Ordering) → AreLabels a.target_name.labels × AreLabels b.target_name.labels
    → o ≡ ordering_then (ordering_then Equal (field_cmp (Number 2) a.svc_priority b.svc_priority)) (field_cmp Name a.target_name b.target_name)
    → canonical_cmp svcb_shape (svcb_fields a) (svcb_fields b) ≡ ordering_then o (rest_cmp a.svc_params b.svc_params 0)
unfolding field_octets
parameters_behind a b o l e =
    sym (fields_decide svcb_shape (svcb_fields a) (svcb_fields b) (tt, (l, (tt, tt))))
    ∙ ap (λ (t : Ordering). ordering_then t (rest_cmp a.svc_params b.svc_params 0)) (sym e)

-- priorities and targets that tie, with parameters that are compared by the same, are equal
pub all_alike : (a b : SVCB) (o : Ordering)
    → o ≡ ordering_then (ordering_then Equal (field_cmp (Number 2) a.svc_priority b.svc_priority)) (field_cmp Name a.target_name b.target_name)
    → o ≡ Equal → a.svc_priority < 256 ^ 2 → b.svc_priority < 256 ^ 2 → a.target_name.fully_qualified ≡ b.target_name.fully_qualified
    → map own_parameter a.svc_params ≡ map own_parameter b.svc_params → values_eq svcb_key_shape (svcb_keys a) (svcb_keys b) ≡ true
unfolding field_octets
all_alike a b o e tie p q marks same =
    let fronts =
    both_equal (ordering_then Equal (field_cmp (Number 2) a.svc_priority b.svc_priority)) (field_cmp Name a.target_name b.target_name) (sym e ∙ tie) in
    let priority : a.svc_priority ≡ b.svc_priority =
    same_number 2 a.svc_priority b.svc_priority p q (octets_tie (field_cmp (Number 2) a.svc_priority b.svc_priority) (bytes_high_first 2 a.svc_priority) (bytes_high_first 2 b.svc_priority) refl (both_equal Equal _ fronts.0).1) in
    let target : lowname a.target_name ≡ lowname b.target_name =
    octets_tie (field_cmp Name a.target_name b.target_name) (lowname a.target_name) (lowname b.target_name) refl fronts.1 in
    let numbers : nat_eq a.svc_priority b.svc_priority ≡ true = (unsigned_Decides a.svc_priority b.svc_priority).1 priority in
    let names : name_eq a.target_name b.target_name ≡ true =
    (Decides-and _ _ (pointwise_decides unsigned_Decides (lowname a.target_name) (lowname b.target_name)) (booleans_Decides a.target_name.fully_qualified b.target_name.fully_qualified)).1 (target, marks) in
    let keys : pointwise key_eq (parameter_keys (map own_parameter a.svc_params)) (parameter_keys (map own_parameter b.svc_params)) ≡ true =
    (pointwise_decides (pointwise_decides (pointwise_decides unsigned_Decides)) (parameter_keys (map own_parameter a.svc_params)) (parameter_keys (map own_parameter b.svc_params))).1
    (ap parameter_keys same) in
    (λ i. numbers i && (names i && (keys i && true)))

-- if all are alike, none follow them
pub none_behind : (i : ℕ) (ps qs : List Parameter) → i ≡ length ps → i ≡ length qs → map own_parameter (drop i ps) ≡ map own_parameter (drop i qs)
none_behind i ps qs e f = rw (drop_all i ps (omega arith), drop_all i qs (omega arith)) refl

numbers_order : (j k : SvcParamKey) → numbered_cmp key_number key_variant j k ≡ slice_cmp nat_cmp (key_numbers j) (key_numbers k)
numbers_order j k = ap (ordering_then (nat_cmp (key_number j) (key_number k))) (sym (then_equal (nat_cmp (key_variant j) (key_variant k))))

pub keys_order : (xs ys : List SvcParamKey)
    → slice_cmp (numbered_cmp key_number key_variant) xs ys ≡ slice_cmp (slice_cmp nat_cmp) (map key_numbers xs) (map key_numbers ys)
keys_order xs ys = ap (λ R. slice_cmp R xs ys) (λ i j k. numbers_order j k i) ∙ sym (lex_map key_numbers (slice_cmp nat_cmp) xs ys)

pub differ_order : (v w : SvcParamValue) → Differ v w → nat_cmp (value_rank v) (value_rank w) ≡ slice_cmp (slice_cmp nat_cmp) (value_key v) (value_key w)
differ_order (variants.Mandatory x) (variants.Mandatory y) d = absurd d
differ_order v w d = grind arith

-- where one list has ended, the number of items decides
pub by_lengths : {X Y : Type 0} (R : Y → Y → Ordering) (view : List X → List Y) → ((xs : List X) → length (view xs) ≡ length xs) → (xs ys : List X) (i n : ℕ)
    → n ≡ min (length xs) (length ys) → n ≤ i → i ≤ n → nat_cmp (length xs) (length ys) ≡ slice_cmp R (view (drop i xs)) (view (drop i ys))
by_lengths R view same xs ys i n m past within =
    by (view (drop i xs)) (view (drop i ys)) (same (drop i xs) ∙ length-drop i xs) (same (drop i ys) ∙ length-drop i ys)
  where
    by : (p q : List _) → length p ≡ length xs - i → length q ≡ length ys - i → nat_cmp (length xs) (length ys) ≡ slice_cmp R p q
    by [] [] e f = sym (nat_cmp_is (length xs) (length ys) Equal (omega (arith, e, f, m, past, within)))
    by [] (y ∷ q) e f = sym (nat_cmp_is (length xs) (length ys) Less (omega (arith, e, f, m, past, within)))
    by (x ∷ p) [] e f = sym (nat_cmp_is (length xs) (length ys) Greater (omega (arith, e, f, m, past, within)))
    by (x ∷ p) (y ∷ q) e f = absurd (omega (arith, e, f, m, past, within))
