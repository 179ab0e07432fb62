-- SVCB by its fields: a record that was read is told by them, and fields of a region make one.
use Rattle.std.proofs.Common.{◌≡◌, inl, inr, ℕ, ◌==◌, ◌&&◌, Bool, true, false, if◌then◌else◌, List, [], ◌∷◌, length, map, refl, sym, ap, ◌∙◌, arith}
use Rattle.std.proofs.{lemmas.Bool.Decides.same_from_decides, lemmas.Bool.Decides.Decides-like, lemmas.Bool.Decides.nat_tests, lemmas.Simd.map-map}
use Rattle.std.proofs.{Common.◌⊎◌, Common.nat_le, Common.◌≤◌, Common.subst, lemmas.Grind.common_steps}
use Rattle.std.specs.List.{flat_map, AllByRecursion}
use Rattle.dns_fields.specs.Tlvs.{Numbered, ParameterValue, Mandatory, Alpn, NoDefaultAlpn, Port, Ipv4Hint, Ipv6Hint, Opaque, ParameterHeld}
use Rattle.dns_fields.specs.Tlvs.{AllHeld, tlv, tlvs, ParameterForm, Keys, Names, AnyOctets, form_for}
use Rattle.dns_fields.specs.{declared.Kind.TheVariants.Number, declared.Kind.TheVariants.Name, Fields.Values, declared.Kind.TheVariants.Parameters}
use Rattle.dns_fields.specs.{Equal.kind_eq, Equal.values_eq, Octets.AreOctets}
use Rattle.dns_fields.proofs.OctetLaws.{AreOctets-at, AreOctets-front, AreOctets-back, AreOctets-same, tlv_body}
use Rattle.dns_fields.proofs.EqualLaws.{field_decide}
use Rattle.dns_names_wire.specs.{State.Reading, Terms.Region}
use Rattle.dns_rdata_base.proofs.{Addresses.octets_of-segments, Addresses.segments_of-octets_of, NumberLaws.number-numbered_of}
use Rattle.dns_rdata_service.specs.Parameters.{Parameter, parameter_of, parameter_from, own_parameter, AreRead}
use Rattle.dns_rows.specs.Rules.{is_text_key}
use Rattle.dns_rdata_service.specs.SvcParamValue.{value_of, value_from, a_octets, a_of, aaaa_octets, aaaa_of, IsValueOf, opaque_from}
use Rattle.dns_rdata_service.specs.declared.svcb.key.SvcParamKey.TheVariants.{Key, Key65535, Unknown}
use Rattle.dns_rdata_service.specs.declared.svcb.key.SvcParamKey.TheVariants as keys
use Rattle.dns_rdata_service.specs.SvcParamKey.{key_number, key_of, key_variant, named_keys, other_key}
use Rattle.dns_rdata_service.specs.SVCB.{svcb_shape, svcb_fields, svcb_key_shape, svcb_keys, IsReadSvcb}
use Rattle.dns_rdata_service.specs.declared.svcb.SVCB.{SVCB}
use Rattle.dns_rdata_service.specs.{declared.svcb.key.SvcParamKey.SvcParamKey}
use Rattle.dns_rdata_service.specs.{declared.svcb.value.SvcParamValue.SvcParamValue, declared.svcb.unknown.Unknown.Unknown as Other}
use Rattle.dns_rdata_service.specs.{declared.svcb.ip_hint.IpHint.IpHint}
use Rattle.dns_rdata_service.proofs.OwnValues.{own_fields}
use Rattle.dns_rdata_base.specs.{declared.aaaa.AAAA.AAAA, declared.a.A.A}
use Rattle.dns_rdata_service.specs.declared.svcb.value.SvcParamValue.TheVariants as variants

other_number : (b : Bool) (n : ℕ) → key_number (if b then Key n else Unknown n) ≡ n
other_number true n = refl
other_number false n = refl

pub key_number-of : (n : ℕ) → key_number (key_of n) ≡ n
unfolding key_of
key_number-of n = number-numbered_of key_number named_keys other_key n (other_number (nat_le 65280 n) n)

pub map_back : {X Y : Type 0} (f : X → Y) (g : Y → X) → ((x : X) → x ≡ g (f x)) → (xs : List X) → xs ≡ map g (map f xs)
map_back f g h [] = refl
map_back f g h (x ∷ xs) = ap (λ y. y ∷ xs) (h x) ∙ ap (λ ys. g (f x) ∷ ys) (map_back f g h xs)

pub aaaa_list_back : (xs : List AAAA) → xs ≡ map aaaa_of (map aaaa_octets xs)
aaaa_list_back = map_back aaaa_octets aaaa_of (λ x. ap (λ (s : List ℕ). record { 0 = record { segments = s } }) (sym (segments_of-octets_of x.0.segments)))

-- a key without a form of its own: its octets are unknown, and its number has no form and no text
unnamed : (k : SvcParamKey) → ((x : ℕ) × (k ≡ Key x)) ⊎ ((k ≡ Key65535) ⊎ ((x : ℕ) × (k ≡ Unknown x)))
    → ((s : List ℕ) → opaque_from k s ≡ variants.Unknown (record { 0 = s })) × (8 ≤ key_variant k)
unnamed k (inl h) = rw h.1 ((λ s. refl), omega arith)
unnamed k (inr (inl h)) = rw h ((λ s. refl), omega arith)
unnamed k (inr (inr h)) = rw h.1 ((λ s. refl), omega arith)

unnamed_form : (n : ℕ) → 8 ≤ key_variant (key_of n) → form_for n ≡ AnyOctets
unfolding key_of
unnamed_form n h = grind (arith, common_steps, nat_tests, h)

text_is_named : (n : ℕ) → 8 ≤ key_variant (key_of n) → is_text_key n ≡ true → ⊥
unfolding key_of
text_is_named n h is = grind (arith, common_steps, nat_tests, h, is)

pub unnamed_value : (k : SvcParamKey) (body : List ℕ) (x : Other) → k ≡ key_of (key_number k)
    → ((x : ℕ) × (k ≡ Key x)) ⊎ ((k ≡ Key65535) ⊎ ((x : ℕ) × (k ≡ Unknown x))) → body ≡ x.0 → IsValueOf (key_number k) body (variants.Unknown x)
unnamed_value k body x given other e =
    let own = unnamed k other in
    let rank = subst (λ (j : SvcParamKey). 8 ≤ key_variant j) given own.1 in
    record {
      held = (sym (unnamed_form (key_number k) rank), tt, e);
      given = sym (ap (λ (j : SvcParamKey). opaque_from j x.0) (sym given) ∙ own.0 x.0);
      text = λ is. absurd (text_is_named (key_number k) rank is);
    }

pub hint4_back : (x : IpHint A) → x ≡ record { 0 = map a_of (map a_octets x.0) }
hint4_back x = ap (λ (as' : List A). record { 0 = as' }) (map_back a_octets a_of (λ a. refl) x.0)

pub hint6_back : (x : IpHint AAAA) → x ≡ record { 0 = map aaaa_of (map aaaa_octets x.0) }
hint6_back x = ap (λ (as' : List AAAA). record { 0 = as' }) (aaaa_list_back x.0)

abbrev pub svcb_from : Values svcb_shape → SVCB
svcb_from vs = record { svc_priority = vs.0; target_name = vs.1.0; svc_params = map parameter_from vs.1.1.0 }

pub svcb_from-fields : (x : SVCB) → IsReadSvcb x → x ≡ svcb_from (svcb_fields x)
svcb_from-fields x r = ap (λ (ps : List Parameter). record x { svc_params = ps }) r

-- ---- what fields give has the fields, where addresses are octets

opaque_value : (k : SvcParamKey) (s : List ℕ) → value_of (opaque_from k s) ≡ Opaque s
opaque_value keys.EchConfigList s = refl
opaque_value k s = refl

abbrev IsWide : ParameterValue → Type 0
IsWide (Ipv6Hint addresses) = AllByRecursion (λ s. (length s ≡ 16) × AreOctets s) addresses
IsWide v = Unit {0}

wide_back : (ss : List (List ℕ)) → AllByRecursion (λ s. (length s ≡ 16) × AreOctets s) ss → map aaaa_octets (map aaaa_of ss) ≡ ss
wide_back [] h = refl
wide_back (s ∷ ss) h = ap (λ t. t ∷ map aaaa_octets (map aaaa_of ss)) (octets_of-segments 8 s (omega (arith, h.0.0)) h.0.1) ∙ ap (λ t. s ∷ t) (wide_back ss h.1)

value_back : (n : ℕ) (v : ParameterValue) → IsWide v → value_of (value_from n v) ≡ v
value_back n (Mandatory ks) h = ap Mandatory (sym (map_back key_of key_number (λ n. sym (key_number-of n)) ks))
value_back n (Alpn names) h = refl
value_back n NoDefaultAlpn h = refl
value_back n (Port p) h = refl
value_back n (Ipv4Hint ss) h = ap Ipv4Hint (sym (map_back a_of a_octets (λ s. refl) ss))
value_back n (Ipv6Hint ss) h = ap Ipv6Hint (wide_back ss h)
value_back n (Opaque s) h = opaque_value (key_of n) s

parameters_back : (v : List (Numbered ParameterValue)) → AllByRecursion (λ x. IsWide x.1) v → map parameter_of (map parameter_from v) ≡ v
parameters_back [] h = refl
parameters_back (x ∷ xs) h =
    let one : parameter_of (parameter_from x) ≡ x = ap (λ (k : ℕ). (k, value_of (value_from x.0 x.1))) (key_number-of x.0)
    ∙ ap (λ (v : ParameterValue). (x.0, v)) (value_back x.0 x.1 h.0) in
    ap (λ y. y ∷ map parameter_of (map parameter_from xs)) one ∙ ap (λ ys. x ∷ ys) (parameters_back xs h.1)

groups_wide : (ss : List (List ℕ)) → AllByRecursion (λ s. length s ≡ 16) ss → AreOctets (flat_map (λ s. s) ss)
    → AllByRecursion (λ s. (length s ≡ 16) × AreOctets s) ss
groups_wide [] h a = tt
groups_wide (s ∷ ss) h a = ((h.0, AreOctets-front s (flat_map (λ x. x) ss) a), groups_wide ss h.1 (AreOctets-back s (flat_map (λ x. x) ss) a))

held_wide : (k : ℕ) (body : List ℕ) (v : ParameterValue) → ParameterHeld k body v → AreOctets body → IsWide v
held_wide k body (Ipv6Hint ss) h a = groups_wide ss h.1 (AreOctets-same body (flat_map (λ s. s) ss) h.2 a)
held_wide k body v h a = tt

all_wide : (read : List (Numbered (List ℕ))) (v : List (Numbered ParameterValue)) → AllHeld ParameterHeld read v → AreOctets (tlvs read)
    → AllByRecursion (λ x. IsWide x.1) v
all_wide [] [] h a = tt
all_wide [] (y ∷ ys) h a = absurd h
all_wide (x ∷ xs) [] h a = absurd h
all_wide (x ∷ xs) (y ∷ ys) h a = (
  held_wide y.0 x.1 y.1 h.1 (tlv_body x (AreOctets-front (tlv x) (tlvs xs) a)),
  all_wide xs ys h.2
      (AreOctets-back (tlv x) (tlvs xs) a),
)

pub svcb_fields-from : (m : List ℕ) (p n : ℕ) (condition : Values svcb_shape → Type 0) (vs : Values svcb_shape) → Region m p n svcb_shape condition vs
    → svcb_fields (svcb_from vs) ≡ vs
svcb_fields-from m p n condition vs w =
    let s = w.stands.2.2.1.is in
    let wide = all_wide s.read vs.1.1.0 s.held (AreOctets-at m w.stands.2.0 (tlvs s.read) w.stands.2.2.0 w.octets s.at) in
    ap (λ (v : List (Numbered ParameterValue)). (vs.0, (vs.1.0, (v, tt)))) (parameters_back vs.1.1.0 wide)

-- ---- and is read

value_again : (n : ℕ) (v : ParameterValue) → value_from n v ≡ value_from n (value_of (value_from n v))
value_again n (Ipv6Hint ss) = ap (λ as'. variants.Ipv6Hint (record { 0 = as' })) (aaaa_list_back (map aaaa_of ss))
value_again n v = ap (value_from n) (sym (value_back n v tt))

parameter_again : (x : Numbered ParameterValue) → parameter_from x ≡ parameter_from (parameter_of (parameter_from x))
parameter_again x =
    ap (λ (v : SvcParamValue). (key_of x.0, v)) (value_again x.0 x.1)
    ∙ ap (λ (k : ℕ). (key_of k, value_from k (value_of (value_from x.0 x.1)))) (sym (key_number-of x.0))

pub svcb_from-read : (vs : Values svcb_shape) → IsReadSvcb (svcb_from vs)
svcb_from-read vs =
    let v = vs.1.1.0 in
    (λ i. map (λ x. parameter_again x i) v)
    ∙ sym (map-map parameter_from parameter_of (map parameter_from v) ∙ map-map (λ p. parameter_from (parameter_of p)) parameter_from v)

-- ---- keys are the same exactly where fields are

parameters_equal : (ps qs : List Parameter) → AreRead ps → AreRead qs
    → kind_eq Parameters (map own_parameter ps) (map own_parameter qs) ≡ kind_eq Parameters (map parameter_of ps) (map parameter_of qs)
parameters_equal ps qs x y =
    same_from_decides _ _
    (Decides-like _ (λ e. record { is = own_fields ps qs e.is }) (λ e. record { is = ap (map own_parameter) (x ∙ ap (map parameter_from) e.is ∙ sym y) })
    (field_decide Parameters (map own_parameter ps) (map own_parameter qs) tt tt))
    (field_decide Parameters (map parameter_of ps) (map parameter_of qs) tt tt)

-- what was read is compared as its fields are
pub svcb_equal : (a b : SVCB) → IsReadSvcb a → IsReadSvcb b
    → values_eq svcb_key_shape (svcb_keys a) (svcb_keys b) ≡ values_eq svcb_shape (svcb_fields a) (svcb_fields b)
svcb_equal a b x y = ap (λ (t : Bool). kind_eq (Number 2) a.svc_priority b.svc_priority && (kind_eq Name a.target_name b.target_name && (t && true)))
    (parameters_equal a.svc_params b.svc_params x y)
