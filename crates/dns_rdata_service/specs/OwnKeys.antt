-- Parameters are equal exactly if the keys are equal that they are compared by.
use Rattle.std.specs.Prelude.{◌≡◌, Bool, true, false, ◌&&◌, List, [], ◌∷◌, map, nat_eq}
use Rattle.std.specs.Cmp.{Lexicographic.pointwise, Derive.Mapped.pointwise-map}
use Rattle.std.proofs.Common.{refl, sym, ap, ◌∙◌}
use Rattle.dns_fields.specs.Equal.{key_eq, parameter_key, parameter_keys, values_eq}
use Rattle.dns_rdata_base.specs.{Numbered.numbered_eq, declared.a.A.A, declared.aaaa.AAAA.AAAA}
use Rattle.dns_rdata_base.specs.AAAA.{aaaa_shape, aaaa_fields}
use Rattle.dns_rdata_service.specs.{SvcParamKey.key_number, SvcParamKey.key_variant, Parameters.Parameter, Parameters.own_parameter}
use Rattle.dns_rdata_service.specs.{declared.svcb.key.SvcParamKey.SvcParamKey, declared.svcb.value.SvcParamValue.SvcParamValue}
use Rattle.dns_rdata_service.specs.SvcParamValue.{key_numbers, value_key, a_octets, aaaa_octets}
use Rattle.dns_rdata_service.specs.declared.svcb.value.SvcParamValue.TheVariants as variants
use Rattle.dns_rdata_service.specs.contracts.svcb.value.SvcParamValuePartialEq.TheImpl as value_impl

abbrev pub value_eq : SvcParamValue → SvcParamValue → Bool
value_eq = value_impl.ghosts.eq

abbrev pub parameter_eq : Parameter → Parameter → Bool
parameter_eq p q = numbered_eq key_number key_variant p.0 q.0 && value_eq p.1 q.1

and_true : (b : Bool) → b && true ≡ b
and_true true = refl
and_true false = refl

-- lists under a view
pointwise_view : {X Y : Type 0} (E : X → X → Bool) (F : Y → Y → Bool) (f : X → Y) → ((x y : X) → E x y ≡ F (f x) (f y))
    → (xs ys : List X)
    → pointwise E xs ys ≡ pointwise F (map f xs) (map f ys)
pointwise_view E F f same xs ys = ap (λ R. pointwise R xs ys) (λ i x y. same x y i) ∙ sym (pointwise-map f F xs ys)

numbers_same : (j k : SvcParamKey)
    → numbered_eq key_number key_variant j k ≡ pointwise nat_eq (key_numbers j) (key_numbers k)
numbers_same j k =
    ap (λ b. nat_eq (key_number j) (key_number k) && b) (sym (and_true (nat_eq (key_variant j) (key_variant k))))

aaaa_same : (x y : AAAA)
    → values_eq aaaa_shape (aaaa_fields x) (aaaa_fields y) ≡ pointwise nat_eq (aaaa_octets x) (aaaa_octets y)
aaaa_same x y = and_true (pointwise nat_eq (aaaa_octets x) (aaaa_octets y))

pub value_same : (v w : SvcParamValue) → value_eq v w ≡ key_eq (value_key v) (value_key w)
value_same (variants.Mandatory x) (variants.Mandatory y) =
    pointwise_view (numbered_eq key_number key_variant) (pointwise nat_eq) key_numbers numbers_same
    x.0 y.0
value_same v variants.NoDefaultAlpn = sym (and_true (value_eq v variants.NoDefaultAlpn))
value_same (variants.Alpn x) (variants.Alpn y) = refl
value_same (variants.Port m) (variants.Port n) = sym (and_true (nat_eq m n && true) ∙ and_true (nat_eq m n))
value_same (variants.Ipv4Hint x) (variants.Ipv4Hint y) =
    pointwise_view (λ (a b : A). pointwise nat_eq (a_octets a) (a_octets b)) (pointwise nat_eq)
    a_octets (λ a b. refl) x.0 y.0
value_same (variants.Ipv6Hint x) (variants.Ipv6Hint y) =
    pointwise_view (λ (a b : AAAA). values_eq aaaa_shape (aaaa_fields a) (aaaa_fields b))
    (pointwise nat_eq) aaaa_octets aaaa_same x.0 y.0
value_same v w = sym (and_true (value_eq v w))

one_after : (a b x : Bool) → (a && b) && x ≡ (a && true) && ((b && true) && x)
one_after true true x = refl
one_after true false x = refl
one_after false b x = refl

parameter_same : (p q : Parameter)
    → parameter_eq p q ≡ pointwise nat_eq (key_number p.0 ∷ 1 ∷ []) (key_number q.0 ∷ 1 ∷ [])
    && key_eq ((key_variant p.0 ∷ []) ∷ value_key p.1) ((key_variant q.0 ∷ []) ∷ value_key q.1)
parameter_same p q =
    ap (λ b. (nat_eq (key_number p.0) (key_number q.0) && nat_eq (key_variant p.0) (key_variant q.0)) && b)
    (value_same p.1 q.1)
    ∙ one_after (nat_eq (key_number p.0) (key_number q.0)) (nat_eq (key_variant p.0) (key_variant q.0))
    (key_eq (value_key p.1) (value_key q.1))

-- lists of parameters
pub parameters_same : (ps qs : List Parameter)
    → pointwise parameter_eq ps qs ≡ pointwise key_eq (parameter_keys (map own_parameter ps))
    (parameter_keys (map own_parameter qs))
parameters_same ps qs =
    pointwise_view parameter_eq (λ x y. key_eq (parameter_key x) (parameter_key y)) own_parameter parameter_same ps qs
    ∙ sym (pointwise-map parameter_key key_eq (map own_parameter ps) (map own_parameter qs))
