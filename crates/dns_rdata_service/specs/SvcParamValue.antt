-- The values of service parameters: what each holds, the octets that it is read from, and its text (RFC 9460, 7 and 8;
-- RFC 9461, 5).
use Rattle.std.specs.Prelude.{◌≡◌, ◌⊎◌, ℕ, ◌^◌, ◌<◌, ◌&&◌, nat_le, Bool, true, false, Option, Some, None, List, [], ◌∷◌, ◌++◌, length, drop, map, codes}
use Rattle.std.specs.{Net.Addr.ipv4_octets, Net.Addr.ipv6_octets, Net.Addr.segments_of, Prelude.decimal, Prelude.IsUtf8, Prelude.Result}
use Rattle.std.specs.{Int.bytes_high_first, List.flat_map}
use Rattle.base64.specs.{GeneralPurpose.encode_of, Engines.standard}
use Rattle.dns_types.specs.{declared.error.DecodeError.DecodeError, declared.error.ProtoError.ProtoError}
use Rattle.dns_fields.specs.Tlvs.{ParameterValue, Mandatory, Alpn, NoDefaultAlpn, Port, Ipv4Hint, Ipv6Hint, Opaque, ParameterForm}
use Rattle.dns_fields.specs.Tlvs.{IsEmittable, IsBody, ParameterHeld}
use Rattle.dns_fields.specs.Tlvs.{parameter_octets, parameter_emittable}
use Rattle.dns_rows.specs.Rules.{HasText}
use Rattle.dns_names_wire.specs.{State.Writing, Terms.EmitsOctets}
use Rattle.dns_rdata_base.specs.{declared.aaaa.AAAA.AAAA, AAAA.aaaa_text, declared.a.A.A, Lossy.lossy, A.a_text}
use Rattle.dns_rdata_service.specs.{SvcParamKey.key_number, SvcParamKey.key_variant, SvcParamKey.key_of, SvcParamKey.key_text}
use Rattle.dns_rdata_service.specs.{declared.svcb.ech_config_list.EchConfigList.EchConfigList as Config, declared.svcb.key.SvcParamKey.SvcParamKey}
use Rattle.dns_rdata_service.specs.{declared.svcb.mandatory.Mandatory.Mandatory as MandatoryKeys, declared.svcb.value.SvcParamValue.SvcParamValue}
use Rattle.dns_rdata_service.specs.{declared.svcb.doh_path.DohPath.DohPath as Path, declared.svcb.unknown.Unknown.Unknown as Other}
use Rattle.dns_rdata_service.specs.{declared.svcb.alpn.Alpn.Alpn as Protocols, declared.svcb.ip_hint.IpHint.IpHint}
use Rattle.dns_types.specs.declared.error.DecodeError.TheVariants as decode
use Rattle.dns_rdata_service.specs.declared.svcb.key.SvcParamKey.TheVariants as keys
use Rattle.dns_rdata_service.specs.declared.svcb.value.SvcParamValue.TheVariants as variants
pub use Rattle.dns_check.specs.ParameterValues.{TruncatedName, WrongName, IsFormError}

-- ---- as values of the grammar

abbrev pub mandatory_value : MandatoryKeys → ParameterValue
mandatory_value x = Mandatory (map key_number x.0)

abbrev pub alpn_value : Protocols → ParameterValue
alpn_value x = Alpn x.0

abbrev pub a_octets : A → List ℕ
a_octets a = ipv4_octets a.0

abbrev pub aaaa_octets : AAAA → List ℕ
aaaa_octets a = ipv6_octets a.0

abbrev pub hint4_value : IpHint A → ParameterValue
hint4_value x = Ipv4Hint (map a_octets x.0)

abbrev pub hint6_value : IpHint AAAA → ParameterValue
hint6_value x = Ipv6Hint (map aaaa_octets x.0)

abbrev pub ech_value : Config → ParameterValue
ech_value x = Opaque x.0

abbrev pub doh_path_value : Path → ParameterValue
doh_path_value x = Opaque x.0

abbrev pub unknown_value : Other → ParameterValue
unknown_value x = Opaque x.0

abbrev pub value_of : SvcParamValue → ParameterValue
value_of (variants.Mandatory x) = mandatory_value x
value_of (variants.Alpn x) = alpn_value x
value_of variants.NoDefaultAlpn = NoDefaultAlpn
value_of (variants.Port n) = Port n
value_of (variants.Ipv4Hint x) = hint4_value x
value_of (variants.EchConfigList x) = ech_value x
value_of (variants.Ipv6Hint x) = hint6_value x
value_of (variants.DohPath x) = doh_path_value x
value_of (variants.Unknown x) = unknown_value x

abbrev pub a_of : List ℕ → A
a_of s = record { 0 = record { octets = s } }

abbrev pub aaaa_of : List ℕ → AAAA
aaaa_of s = record { 0 = record { segments = segments_of s } }

-- the value of a key that octets give
abbrev pub opaque_from : SvcParamKey → List ℕ → SvcParamValue
opaque_from keys.EchConfigList s = variants.EchConfigList (record { 0 = s })
opaque_from keys.DohPath s = variants.DohPath (record { 0 = s })
opaque_from key s = variants.Unknown (record { 0 = s })

-- the value that a key's value of the grammar gives
abbrev pub value_from : ℕ → ParameterValue → SvcParamValue
value_from key (Mandatory keys) = variants.Mandatory (record { 0 = map key_of keys })
value_from key (Alpn names) = variants.Alpn (record { 0 = names })
value_from key NoDefaultAlpn = variants.NoDefaultAlpn
value_from key (Port n) = variants.Port n
value_from key (Ipv4Hint addresses) = variants.Ipv4Hint (record { 0 = map a_of addresses })
value_from key (Ipv6Hint addresses) = variants.Ipv6Hint (record { 0 = map aaaa_of addresses })
value_from key (Opaque s) = opaque_from (key_of key) s

-- the key whose values have the format of this value
abbrev pub own_key : SvcParamValue → Option SvcParamKey
own_key (variants.Mandatory x) = Some keys.Mandatory
own_key (variants.Alpn x) = Some keys.Alpn
own_key variants.NoDefaultAlpn = Some keys.NoDefaultAlpn
own_key (variants.Port x) = Some keys.Port
own_key (variants.Ipv4Hint x) = Some keys.Ipv4Hint
own_key (variants.EchConfigList x) = Some keys.EchConfigList
own_key (variants.Ipv6Hint x) = Some keys.Ipv6Hint
own_key (variants.DohPath x) = Some keys.DohPath
own_key (variants.Unknown x) = None

-- ---- as keys of their own, for comparing

-- a key's number, and then the rank of its variant
abbrev pub key_numbers : SvcParamKey → List ℕ
key_numbers k = key_number k ∷ key_variant k ∷ []

-- the rank of a value's variant, and then what it holds
abbrev pub value_key : SvcParamValue → List (List ℕ)
value_key (variants.Mandatory x) = (0 ∷ []) ∷ map key_numbers x.0
value_key (variants.Alpn x) = (1 ∷ []) ∷ x.0
value_key variants.NoDefaultAlpn = (2 ∷ []) ∷ []
value_key (variants.Port n) = (3 ∷ []) ∷ (n ∷ []) ∷ []
value_key (variants.Ipv4Hint x) = (4 ∷ []) ∷ map a_octets x.0
value_key (variants.EchConfigList x) = (5 ∷ []) ∷ x.0 ∷ []
value_key (variants.Ipv6Hint x) = (6 ∷ []) ∷ map aaaa_octets x.0
value_key (variants.DohPath x) = (7 ∷ []) ∷ x.0 ∷ []
value_key (variants.Unknown x) = (8 ∷ []) ∷ x.0 ∷ []

-- the rank of the variant
abbrev pub value_rank : SvcParamValue → ℕ
value_rank (variants.Mandatory x) = 0
value_rank (variants.Alpn x) = 1
value_rank variants.NoDefaultAlpn = 2
value_rank (variants.Port n) = 3
value_rank (variants.Ipv4Hint x) = 4
value_rank (variants.EchConfigList x) = 5
value_rank (variants.Ipv6Hint x) = 6
value_rank (variants.DohPath x) = 7
value_rank (variants.Unknown x) = 8

-- they are not of one variant with a value inside
abbrev pub Differ : SvcParamValue → SvcParamValue → Type 0
Differ (variants.Mandatory x) (variants.Mandatory y) = ⊥
Differ (variants.Alpn x) (variants.Alpn y) = ⊥
Differ (variants.Port m) (variants.Port n) = ⊥
Differ (variants.Ipv4Hint x) (variants.Ipv4Hint y) = ⊥
Differ (variants.EchConfigList x) (variants.EchConfigList y) = ⊥
Differ (variants.Ipv6Hint x) (variants.Ipv6Hint y) = ⊥
Differ (variants.DohPath x) (variants.DohPath y) = ⊥
Differ (variants.Unknown x) (variants.Unknown y) = ⊥
Differ v w = Unit {0}

-- ---- reading

-- the octets are the value of the key with this number
pub record IsValueOf (key : ℕ) (body : List ℕ) (v : SvcParamValue) : Type 0 where
  pub held : ParameterHeld key body (value_of v)
  pub given : v ≡ value_from key (value_of v)
  pub text : HasText key (value_of v)

-- the keys are those that their numbers give
abbrev pub AreGiven : List SvcParamKey → Type 0
AreGiven keys = keys ≡ map key_of (map key_number keys)

-- the octets from p to the end of the message are the value's
pub record ToEnd (m : List ℕ) (p : ℕ) (value : ParameterValue) (q : ℕ) : Type 0 where
  pub ends : q ≡ length m
  pub emittable : IsEmittable value
  pub body : IsBody (drop p m) value

abbrev pub MandatoryAt : List ℕ → ℕ → MandatoryKeys → ℕ → Type 0
MandatoryAt m p x q = ToEnd m p (mandatory_value x) q × AreGiven x.0

abbrev pub AlpnAt : List ℕ → ℕ → Protocols → ℕ → Type 0
AlpnAt m p x q = ToEnd m p (alpn_value x) q

abbrev pub EchConfigListAt : List ℕ → ℕ → Config → ℕ → Type 0
EchConfigListAt m p x q = ToEnd m p (ech_value x) q

abbrev pub DohPathAt : List ℕ → ℕ → Path → ℕ → Type 0
DohPathAt m p x q = ToEnd m p (doh_path_value x) q × IsUtf8 x.0

abbrev pub UnknownAt : List ℕ → ℕ → Other → ℕ → Type 0
UnknownAt m p x q = ToEnd m p (unknown_value x) q

-- or memory runs out
abbrev pub IsValueError : ParameterForm → List ℕ → DecodeError → Type 0
IsValueError form body e = (e ≡ decode.Memory) ⊎ IsFormError form body e

-- why octets are no path of DNS queries, or memory runs out
abbrev pub IsPathError : List ℕ → DecodeError → Type 0
IsPathError body e = (e ≡ decode.Memory) ⊎ ((e ≡ decode.Utf8) × (IsUtf8 body → ⊥))

-- ---- emitting

-- a length in two octets, and its octets
abbrev pub sized : ParameterValue → List ℕ
sized v = bytes_high_first 2 (length (parameter_octets v)) ++ parameter_octets v

-- it can be emitted, in at most 65535 octets
abbrev pub FitsValue : ParameterValue → Type 0
FitsValue v = (length (parameter_octets v) < 256 ^ 2) × IsEmittable v

-- whether it can be emitted, in at most 65535 octets
abbrev pub fits_value : ParameterValue → Bool
fits_value v = nat_le (length (parameter_octets v)) 65535 && parameter_emittable v

-- appends the value's octets
abbrev pub EmitsValue : ParameterValue → Result (Unit {0}) ProtoError → Writing → Writing → Type 0
EmitsValue v r old new = EmitsOctets (IsEmittable v) (parameter_emittable v ≡ false) (parameter_octets v) r old new

-- appends their length and then the octets
abbrev pub EmitsSized : ParameterValue → Result (Unit {0}) ProtoError → Writing → Writing → Type 0
EmitsSized v r old new = EmitsOctets (FitsValue v) (fits_value v ≡ false) (sized v) r old new

-- ---- texts

-- each key and a comma
abbrev pub mandatory_text : MandatoryKeys → List ℕ
mandatory_text x = flat_map (λ k. key_text k ++ codes ",") x.0

-- each name and a comma
abbrev pub alpn_text : Protocols → List ℕ
alpn_text x = flat_map (λ s. lossy s ++ codes ",") x.0

-- base64 (RFC 4648, 4) in quotes
abbrev pub ech_text : Config → List ℕ
ech_text x = codes "\"" ++ encode_of standard x.0 ++ codes "\""

-- the text in quotes, and a comma
abbrev pub unknown_text : Other → List ℕ
unknown_text x = codes "\"" ++ lossy x.0 ++ codes "\","

-- each address and a comma
abbrev pub hint4_text : IpHint A → List ℕ
hint4_text x = flat_map (λ a. a_text a ++ codes ",") x.0

abbrev pub hint6_text : IpHint AAAA → List ℕ
hint6_text x = flat_map (λ a. aaaa_text a ++ codes ",") x.0

-- the text in quotes
abbrev pub doh_path_text : Path → List ℕ
doh_path_text x = codes "\"" ++ lossy x.0 ++ codes "\""

abbrev pub value_text : SvcParamValue → List ℕ
value_text (variants.Mandatory x) = mandatory_text x
value_text (variants.Alpn x) = alpn_text x
value_text variants.NoDefaultAlpn = []
value_text (variants.Port n) = decimal n
value_text (variants.Ipv4Hint x) = hint4_text x
value_text (variants.EchConfigList x) = ech_text x
value_text (variants.Ipv6Hint x) = hint6_text x
value_text (variants.DohPath x) = doh_path_text x
value_text (variants.Unknown x) = unknown_text x
