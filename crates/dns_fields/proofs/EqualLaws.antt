-- `==` of fields tells whether they are the same.
use Rattle.std.proofs.Common.{◌≡◌, ℕ, zero, suc, ◌↔◌, List, [], ◌∷◌, map, nat_eq, refl, sym, ap, ◌∙◌}
use Rattle.std.specs.{Bool.Decides, Cmp.unsigned_Decides, Cmp.booleans_Decides, Cmp.Lexicographic.pointwise, Cmp.Lexicographic.pointwise_decides}
use Rattle.std.specs.{FinMap.IsAntisymmetric, FinMap.nat_cmp-IsAntisymmetric, FinMap.slice_cmp-IsAntisymmetric, List.Sorted.IsPermutation}
use Rattle.std.proofs.{lemmas.Bool.Decides.Decides-and, lemmas.List.Sorted.IsPermutation-map}
use Rattle.dns_fields.specs.{Labels.lowname, declared.Kind.Kind, declared.Kind.TheVariants.Number, declared.Kind.TheVariants.Name}
use Rattle.dns_fields.specs.{declared.Kind.TheVariants.CharacterStrings, declared.Kind.TheVariants.Options, declared.Kind.TheVariants.Parameters, Fields.Value}
use Rattle.dns_fields.specs.{Fields.SameField, Fields.IsFull, Equal.Key, Equal.key_eq, Equal.key_cmp, Equal.option_key_of, Equal.option_key}
use Rattle.dns_fields.specs.{Equal.option_keys, Equal.parameter_key_of, Equal.parameter_key, Equal.parameter_keys, Equal.kind_eq, Laws.EqualLaw}
use Rattle.dns_fields.specs.Tlvs.{Numbered, OptionValue, Subnet, OpaqueOption, ParameterValue, Mandatory, Alpn, NoDefaultAlpn, Port, Ipv4Hint, Ipv6Hint}
use Rattle.dns_fields.specs.Tlvs.{Opaque}
use Rattle.dns_fields.proofs.{Orders.key_total, Sorted.sorted_one, Sorted.sorted_apart}

-- ---- a key tells its pair: the pair is read back

option_value : ℕ → List (List ℕ) → OptionValue
option_value zero ((family ∷ source ∷ scope ∷ []) ∷ address ∷ []) = Subnet family source scope address
option_value (suc n) (s ∷ []) = OpaqueOption s
option_value n content = OpaqueOption []

option_of : Key → Numbered OptionValue
option_of ((code ∷ variant ∷ []) ∷ content) = (code, option_value variant content)
option_of key = (0, OpaqueOption [])

option_back : (code : ℕ) (v : OptionValue) → option_of (option_key_of code v) ≡ (code, v)
unfolding option_value option_of
option_back code (Subnet family source scope address) = refl
option_back code (OpaqueOption s) = refl

parameter_value : ℕ → List (List ℕ) → ParameterValue
parameter_value zero (keys ∷ []) = Mandatory keys
parameter_value (suc zero) names = Alpn names
parameter_value (suc (suc zero)) content = NoDefaultAlpn
parameter_value (suc (suc (suc zero))) ((n ∷ []) ∷ []) = Port n
parameter_value (suc (suc (suc (suc zero)))) addresses = Ipv4Hint addresses
parameter_value (suc (suc (suc (suc (suc zero))))) addresses = Ipv6Hint addresses
parameter_value (suc (suc (suc (suc (suc (suc n)))))) (s ∷ []) = Opaque s
parameter_value n content = NoDefaultAlpn

parameter_of : Key → Numbered ParameterValue
parameter_of ((key ∷ variant ∷ []) ∷ content) = (key, parameter_value variant content)
parameter_of key = (0, NoDefaultAlpn)

parameter_back : (key : ℕ) (v : ParameterValue) → parameter_of (parameter_key_of key v) ≡ (key, v)
unfolding parameter_value parameter_of
parameter_back key (Mandatory keys) = refl
parameter_back key v = refl

map_back : {X Y : Type 0} (f : X → Y) (g : Y → X) → ((x : X) → g (f x) ≡ x) → (xs : List X) → map g (map f xs) ≡ xs
map_back f g back [] = refl
map_back f g back (x ∷ xs) = rw (back x, map_back f g back xs) refl

options_back : (v : List (Numbered OptionValue)) → map option_of (map option_key v) ≡ v
options_back v = map_back option_key option_of (λ x. option_back x.0 x.1) v

-- two keys tie only where they are one
key_same : IsAntisymmetric key_cmp
key_same = slice_cmp-IsAntisymmetric (slice_cmp-IsAntisymmetric nat_cmp-IsAntisymmetric)

keys_decide : (a b : List Key) → Decides (pointwise key_eq a b) (a ≡ b)
keys_decide a b = pointwise_decides (pointwise_decides (pointwise_decides unsigned_Decides)) a b

-- options have the same sorted keys exactly where they are permutations
pub options_decide : (a b : List (Numbered OptionValue)) → (option_keys a ≡ option_keys b) ↔ IsPermutation a b
options_decide a b = (
  λ e. rw (options_back a, options_back b) at
      (IsPermutation-map option_of (map option_key a) (map option_key b) (sorted_apart key_cmp (map option_key a) (map option_key b) e)),
  λ h. sorted_one key_cmp key_total key_same (map option_key a) (map option_key b) (IsPermutation-map option_key a b h),
)

pub parameters_decide : (a b : List (Numbered ParameterValue)) → (parameter_keys a ≡ parameter_keys b) ↔ (a ≡ b)
parameters_decide a b =
    let back = map_back parameter_key parameter_of (λ x. parameter_back x.0 x.1) in
    (λ e. sym (back a) ∙ ap (map parameter_of) e ∙ back b, λ e. ap parameter_keys e)

-- ---- one field, and all

octets_decide : (a b : List ℕ) → Decides (pointwise nat_eq a b) (a ≡ b)
octets_decide a b = pointwise_decides unsigned_Decides a b

pub field_decide : (k : Kind) (a b : Value k) → IsFull k a → IsFull k b → Decides (kind_eq k a b) (SameField k a b)
field_decide (Number w) a b f g = let d = unsigned_Decides a b in (λ h. record { is = d.0 h }, λ s. d.1 s.is)
field_decide Name a b f g =
    let d = Decides-and _ _ (octets_decide (lowname a) (lowname b)) (booleans_Decides a.fully_qualified b.fully_qualified) in
    (λ h. record { is = record { low = (d.0 h).0 } }, λ s. d.1 (s.is.low, f ∙ sym g))
field_decide CharacterStrings a b f g = let d = pointwise_decides octets_decide a b in (λ h. record { is = d.0 h }, λ s. d.1 s.is)
field_decide Options a b f g =
    let d = keys_decide (option_keys a) (option_keys b) in
    let o = options_decide a b in
    (λ h. record { is = o.0 (d.0 h) }, λ s. d.1 (o.1 s.is))
field_decide Parameters a b f g =
    let d = keys_decide (parameter_keys a) (parameter_keys b) in
    let o = parameters_decide a b in
    (λ h. record { is = o.0 (d.0 h) }, λ s. d.1 (o.1 s.is))
field_decide k a b f g = let d = octets_decide a b in (λ h. record { is = d.0 h }, λ s. d.1 s.is)

-- values whose names are fully qualified are equal exactly where they are the same
pub values_decide : EqualLaw
values_decide [] a b f g = (λ h. tt, λ s. refl)
values_decide (k ∷ s) a b f g = Decides-and _ _ (field_decide k a.0 b.0 f.0 g.0) (values_decide s a.1 b.1 f.1 g.1)
