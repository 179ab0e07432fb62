-- Records of options by their fields: one that was read is told by them, and fields that are make one. `==` of records
-- tells whether one is the other in another order; of two that were read, whether their fields are.
use Rattle.std.proofs.{lemmas.Bool.Decides.same_from_decides, lemmas.Bool.Decides.Decides-like, Common.sym, Common.ap, Common.◌∙◌, Common.subst}
use Rattle.std.proofs.lemmas.{List.Sorted.IsPermutation-map, Option.get_or_from_slice_get}
use Rattle.std.proofs.Common.{◌≡◌, ◌↔◌, ◌⊎◌, inl, inr, ℕ, ◌-◌, ◌==◌, Bool, true, false, cond, List, [], ◌∷◌, ◌++◌, map, count_by, get_or, slice_get, Some, refl}
use Rattle.std.specs.{declared.net.ip_addr.IpAddr.TheVariants.V4, declared.net.ip_addr.IpAddr.TheVariants.V6, Cmp.unsigned_Decides, Cmp.first_so, Cmp.second_so}
use Rattle.std.specs.{Cmp.Lexicographic.pointwise, Cmp.Lexicographic.pointwise_decides, Ordering.is_eq, Ordering.eq_by_cmp, declared.net.ip_addr.IpAddr.IpAddr}
use Rattle.std.specs.{List.Sorted.IsPermutation, FinMap.IsAntisymmetric, Int.bytes_high_first, Bool.Decides}
use Rattle.dns_fields.specs.Tlvs.{Numbered, tlv, tlvs, AllHeld, OptionValue, Subnet, OpaqueOption, OptionHeld}
use Rattle.dns_fields.specs.{Fields.Values, Fields.CompleteOptions, Fields.TruncatedOptions, Fields.Stands, Fields.Same, Octets.AreOctets, Equal.values_eq}
use Rattle.dns_fields.proofs.{OctetLaws.AreOctets-at, OctetLaws.AreOctets-front, OctetLaws.AreOctets-back, Multisets.count_ext, Multisets.counts_decide}
use Rattle.dns_fields.proofs.{Sorted.permutation_counts, EqualLaws.values_decide}
use Rattle.dns_rdata_options.specs.OPT.{Pair, pair_value, option_of, pair_of, opt_shape, opt_fields, opt_from, IsReadOpt, code_eq}
use Rattle.dns_rdata_options.specs.{EdnsCode.edns_code_number, EdnsCode.edns_code_variant, EdnsCode.edns_code_of, declared.opt.subnet.ClientSubnet.ClientSubnet}
use Rattle.dns_rdata_options.specs.{OrderLaws.pair_total, OrderLaws.pair_ties, OrderLaws.opt_ties, Order.pair_eq, Order.pair_cmp, Order.opt_eq}
use Rattle.dns_rdata_options.specs.{declared.opt.option.EdnsOption.EdnsOption, declared.opt.code.EdnsCode.EdnsCode, EdnsOption.option_value}
use Rattle.dns_rdata_options.proofs.{OptionValues.edns_code_number-of, OptionValues.held_octets, Subnets.value_back}
use Rattle.std.specs.contracts.net.ip_addr.IpAddrPartialEq.TheImpl as equal_addresses
use Rattle.dns_rdata_options.specs.declared.opt.code.EdnsCode.TheVariants as codes
use Rattle.dns_rdata_options.specs.declared.opt.option.EdnsOption.TheVariants as edns
use Rattle.dns_rdata_options.specs.contracts.opt.option.EdnsOptionPartialEq.TheImpl as equal_options
use Rattle.dns_rdata_options.specs.contracts.opt.subnet.ClientSubnetPartialEq.TheImpl as equal_subnets

-- ---- values that were read

held_value : (n : ℕ) (s : List ℕ) (v : OptionValue) → AreOctets s → OptionHeld n s v → option_value (option_of n v) ≡ v
held_value n s (Subnet f source scope a) are h = value_back f source scope a h.1 (held_octets n s f source scope a are h)
held_value n s (OpaqueOption t) are h = either (n == 3) where
  either : (b : Bool) → option_value (cond b (edns.NSID t) (edns.Unknown n t)) ≡ OpaqueOption t
  either true = refl
  either false = refl

pairs_back : (read : List (Numbered (List ℕ))) (v : List (Numbered OptionValue)) → AreOctets (tlvs read) → AllHeld OptionHeld read v
    → map pair_value (map pair_of v) ≡ v
pairs_back [] [] are h = refl
pairs_back (x ∷ xs) (y ∷ ys) are h =
    let first : AreOctets (tlv x) = AreOctets-front (tlv x) (tlvs xs) are in
    let rest : AreOctets (tlvs xs) = AreOctets-back (tlv x) (tlvs xs) are in
    let body : AreOctets x.1 = AreOctets-back (bytes_high_first 2 _) x.1 (AreOctets-back (bytes_high_first 2 x.0) (bytes_high_first 2 _ ++ x.1) first) in
    ap (λ (n : ℕ). (n, option_value (option_of y.0 y.1)) ∷ map pair_value (map pair_of ys)) (edns_code_number-of y.0)
    ∙ ap (λ (v : OptionValue). (y.0, v) ∷ map pair_value (map pair_of ys)) (held_value y.0 x.1 y.1 body h.1)
    ∙ ap (λ (l : List (Numbered OptionValue)). y ∷ l) (pairs_back xs ys rest h.2)
pairs_back xs v are h = absurd h

-- the fields of options that are encoded are those of the record that they make
pub opt_fields-from : (m : List ℕ) (p : ℕ) (vs : Values opt_shape) (q : ℕ) → AreOctets m → Stands m p opt_shape vs q → opt_fields (opt_from vs) ≡ vs
opt_fields-from m p vs q are s = ap (λ (l : List (Numbered OptionValue)). (l, tt)) (back s.1.is) where
  back : CompleteOptions m p vs.0 s.0 ⊎ ((vs.0 ≡ []) × TruncatedOptions m (s.0 - p) p s.0) → map pair_value (map pair_of vs.0) ≡ vs.0
  back (inl w) = pairs_back w.read vs.0 (AreOctets-at m p (tlvs w.read) s.0 are w.at) w.held
  back (inr c) = ap (λ (l : List (Numbered OptionValue)). map pair_value (map pair_of l)) c.0 ∙ sym c.0

pub opt_from-read : (m : List ℕ) (p : ℕ) (vs : Values opt_shape) (q : ℕ) → AreOctets m → Stands m p opt_shape vs q → IsReadOpt (opt_from vs)
opt_from-read m p vs q are s = record { given = ap opt_from (sym (opt_fields-from m p vs q are s)) }

pub opt_from-fields : (x : List Pair) → IsReadOpt x → x ≡ opt_from (opt_fields x)
opt_from-fields x h = h.given

-- ---- `==` of pairs tells them apart

number_same : (a b : ℕ) → (a == b) ≡ true → a ≡ b
number_same a b = (unsigned_Decides a b).0

octets_same : (a b : List ℕ) → pointwise ◌==◌ a b ≡ true → a ≡ b
octets_same a b = (pointwise_decides unsigned_Decides a b).0

code_back : ℕ → ℕ → EdnsCode
code_back n v = cond (v == 13) (codes.Unknown n) (edns_code_of n)

code_again : (c : EdnsCode) → code_back (edns_code_number c) (edns_code_variant c) ≡ c
unfolding code_back edns_code_of
code_again (codes.Unknown n) = refl
code_again c = refl

pub code_same : (a b : EdnsCode) → code_eq a b ≡ true → a ≡ b
code_same a b h =
    let numbers = number_same (edns_code_number a) (edns_code_number b) (first_so _ _ h) in
    let variants = number_same (edns_code_variant a) (edns_code_variant b) (second_so (edns_code_number a == edns_code_number b) _ h) in
    sym (code_again a) ∙ (λ i. code_back (numbers i) (variants i)) ∙ code_again b

address_same : (a b : IpAddr) → equal_addresses.ghosts.eq a b ≡ true → a ≡ b
address_same (V4 a) (V4 b) h = ap (λ (s : List ℕ). V4 (record { octets = s })) (octets_same a.octets b.octets h)
address_same (V6 a) (V6 b) h = ap (λ (s : List ℕ). V6 (record { segments = s })) (octets_same a.segments b.segments h)
address_same a b h = cc h

subnet_same : (a b : ClientSubnet) → equal_subnets.ghosts.eq a b ≡ true → a ≡ b
subnet_same a b h =
    let address = address_same a.address b.address (first_so _ _ h) in
    let prefixes = second_so (equal_addresses.ghosts.eq a.address b.address) _ h in
    let source = number_same a.source_prefix b.source_prefix (first_so _ _ prefixes) in
    let scope = number_same a.scope_prefix b.scope_prefix (second_so (a.source_prefix == b.source_prefix) _ prefixes) in
    λ i. record { address = address i; source_prefix = source i; scope_prefix = scope i }

pub option_same : (a b : EdnsOption) → equal_options.ghosts.eq a b ≡ true → a ≡ b
option_same (edns.Subnet a) (edns.Subnet b) h = ap edns.Subnet (subnet_same a b h)
option_same (edns.NSID a) (edns.NSID b) h = ap edns.NSID (octets_same a b h)
option_same (edns.Unknown n a) (edns.Unknown m b) h = λ i. edns.Unknown (number_same n m (first_so _ _ h) i) (octets_same a b (second_so (n == m) _ h) i)
option_same a b h = cc h

pub pair_same : (a b : Pair) → pair_eq a b ≡ true → a ≡ b
pair_same a b h = λ i. (code_same a.0 b.0 (first_so _ _ h) i, option_same a.1 b.1 (second_so (code_eq a.0 b.0) _ h) i)

pub pair_same_at : (xs ys : List Pair) (i j : ℕ) (p q x y : Pair) → p ≡ get_or xs i p → q ≡ get_or ys j q → slice_get xs i ≡ Some x → slice_get ys j ≡ Some y
    → pair_eq p q ≡ true → x ≡ y
pair_same_at xs ys i j p q x y e f g h t =
    sym (get_or_from_slice_get xs i x p g) ∙ sym e ∙ pair_same p q t ∙ f ∙ get_or_from_slice_get ys j y q h

pair_tied : IsAntisymmetric pair_cmp
pair_tied a b e = pair_same a b (pair_ties a b ∙ ap is_eq e)

-- one record is the other in another order
pub opt_permutes : (a b : List Pair) → Decides (opt_eq a b) (IsPermutation a b)
opt_permutes a b =
    let counts = counts_decide pair_cmp pair_total pair_eq pair_ties a b (opt_eq a b) (opt_ties a b) in
    let permutes = permutation_counts pair_cmp pair_total pair_tied a b in
    let same : (w : Pair) (l : List Pair) → count_by (pair_eq w) l ≡ count_by (eq_by_cmp pair_cmp w) l =
    λ w l. count_ext (pair_eq w) (eq_by_cmp pair_cmp w) (pair_ties w) l in
    (λ t. permutes.1 (λ w. sym (same w a) ∙ counts.0 t w ∙ same w b), λ p. counts.1 (λ w. same w a ∙ permutes.0 p w ∙ sym (same w b)))

-- the fields of two records that were read are the same exactly where the records are
same_fields : (a b : List Pair) → IsReadOpt a → IsReadOpt b → IsPermutation a b ↔ Same opt_shape (opt_fields a) (opt_fields b)
same_fields a b x y = (
  λ p. (record { is = IsPermutation-map pair_value a b p }, tt),
  λ s.
      let back : IsPermutation (map pair_of (map pair_value a)) (map pair_of (map pair_value b)) =
      IsPermutation-map pair_of (map pair_value a) (map pair_value b) s.0.is in
      subst (λ (l : List Pair). IsPermutation l b) (sym x.given)
      (subst (λ (l : List Pair). IsPermutation (map pair_of (map pair_value a)) l) (sym y.given) back),
)

-- `==` of two records that were read is that of their fields
pub opt_equal : (a b : List Pair) → IsReadOpt a → IsReadOpt b → opt_eq a b ≡ values_eq opt_shape (opt_fields a) (opt_fields b)
opt_equal a b x y =
    let same = same_fields a b x y in
    same_from_decides (opt_eq a b) (values_eq opt_shape (opt_fields a) (opt_fields b)) (opt_permutes a b)
    (Decides-like _ same.1 same.0 (values_decide opt_shape (opt_fields a) (opt_fields b) (tt, tt) (tt, tt)))
