-- The value of an issuer property (RFC 8659, 4.2): the domain name of an issuer, and parameters after semicolons.
use Rattle.std.specs.Prelude.{◌≡◌, ◌≢◌, ◌⊎◌, ℕ, ◌==◌, ◌||◌, ◌&&◌, not, nat_le, Bool, true, List, [], ◌∷◌, ◌++◌, flat_map, Option, Some, None}
use Rattle.std.specs.{Char.is_ascii_alphanumeric, Str.IsUtf8}
use Rattle.dns_types.specs.declared.error.DecodeError.TheVariants as decode
use Rattle.dns_types.specs.declared.error.ProtoError.{ProtoError}
use Rattle.dns_types.specs.declared.error.ProtoError.TheVariants as proto
use Rattle.dns_fields.specs.Labels.{DomainName, IsName}
use Rattle.dns_labels.specs.Text.{IsNameText, HasOctets, name_text}
use Rattle.dns_tokens.specs.Octets.{AllOf, Span}

-- a key and its value
pub record Parameter : Type 0 where
  pub key : List ℕ
  pub value : List ℕ

-- a semicolon, a space or a tab
abbrev pub is_blank : ℕ → Bool
is_blank c = c == 59 || c == 32 || c == 9

abbrev pub is_no_semicolon : ℕ → Bool
is_no_semicolon c = not (c == 59)

-- the octets of a key from its third one on
abbrev pub is_key_octet : ℕ → Bool
is_key_octet c = is_ascii_alphanumeric c || c == 45

-- the octets of a value: 0x21 to 0x3A, and 0x3C to 0x7E
abbrev pub is_value_octet : ℕ → Bool
is_value_octet c = (nat_le 33 c && nat_le c 58) || (nat_le 60 c && nat_le c 126)

-- One letter or digit; or two, and then letters, digits and hyphens.
abbrev pub IsKey : List ℕ → Type 0
IsKey [] = ⊥
IsKey (c ∷ []) = is_ascii_alphanumeric c ≡ true
IsKey (c ∷ d ∷ key) = (is_ascii_alphanumeric c ≡ true) × (is_ascii_alphanumeric d ≡ true) × AllOf is_key_octet key

pub record IsParameter (x : Parameter) : Type 0 where
  pub key : IsKey x.key
  pub value : AllOf is_value_octet x.value

-- a key, an equals sign, a value
abbrev pub parameter_octets : Parameter → List ℕ
parameter_octets x = x.key ++ 61 ∷ x.value

-- Blanks; or blanks and a parameter; or blanks, a parameter, a semicolon, and again such octets.
abbrev pub AreParameters : List ℕ → List Parameter → Type 0
AreParameters octets [] = AllOf is_blank octets
AreParameters octets (x ∷ xs) = (blanks : List ℕ) × (behind : List ℕ)
    × (octets ≡ blanks ++ (parameter_octets x ++ behind)) × AllOf is_blank blanks
    × IsParameter x
    × (((behind ≡ []) × (xs ≡ [])) ⊎ ((more : List ℕ) × (behind ≡ 59 ∷ more) × AreParameters more xs))

-- no octets are no name, and others are UTF-8 and the text of the name
abbrev pub IsIssuerName : List ℕ → Option DomainName → Type 0
IsIssuerName octets None = octets ≡ []
IsIssuerName octets (Some name) = (octets ≢ []) × IsUtf8 octets × IsNameText name octets

-- memory ran out; or they are not UTF-8; or they are, and a message says that they are the text of no name
abbrev pub IsNameError : List ℕ → ProtoError → Type 0
IsNameError octets proto.Memory = Unit {0}
IsNameError octets (proto.Decode e) = (e ≡ decode.Utf8) × (IsUtf8 octets → ⊥) × (octets ≢ [])
IsNameError octets (proto.Message text) = IsUtf8 octets × (octets ≢ [])
    × ((name : DomainName) → IsNameText name octets → ⊥)
IsNameError octets e = ⊥

-- a name before the first semicolon, and after that semicolon, if there is one, parameters
pub record IsIssuer (octets : List ℕ) (name : Option DomainName) (xs : List Parameter) : Type 0 where
  pub front : List ℕ
  pub rest : List ℕ
  pub splits : Span is_no_semicolon front octets rest
  pub is_name : IsIssuerName front name
  pub parameters : ((rest ≡ []) × (xs ≡ [])) ⊎ ((more : List ℕ) × (rest ≡ 59 ∷ more) × AreParameters more xs)

abbrev pub NoIssuer : List ℕ → Type 0
NoIssuer octets = (name : Option DomainName) (xs : List Parameter) → IsIssuer octets name xs → ⊥

-- Memory ran out; or the octets before the first semicolon are not UTF-8; or they are, and a message says that
-- the octets are not the value of an issuer property.
abbrev pub IsIssuerError : List ℕ → ProtoError → Type 0
IsIssuerError octets proto.Memory = Unit {0}
IsIssuerError octets (proto.Decode e) = (e ≡ decode.Utf8) × NoIssuer octets
    × ((front rest : List ℕ) → Span is_no_semicolon front octets rest → IsUtf8 front → ⊥)
IsIssuerError octets (proto.Message text) =
    NoIssuer octets × ((front rest : List ℕ) → Span is_no_semicolon front octets rest → IsUtf8 front)
IsIssuerError octets e = ⊥

-- ---- what is written

abbrev pub issuer_name_text : Option DomainName → List ℕ
issuer_name_text None = []
issuer_name_text (Some name) = name_text name

-- each parameter after a semicolon and a space
abbrev pub parameters_text : List Parameter → List ℕ
parameters_text xs = flat_map (λ x. 59 ∷ 32 ∷ parameter_octets x) xs

-- a semicolon alone, where there is neither name nor parameter
abbrev pub issuer_value : Option DomainName → List Parameter → List ℕ
issuer_value None [] = 59 ∷ []
issuer_value name xs = issuer_name_text name ++ parameters_text xs

-- the printed text of the name can be before a semicolon
abbrev pub IsWritable : Option DomainName → Type 0
IsWritable None = Unit {0}
IsWritable (Some name) = (name_text name ≢ []) × AllOf is_no_semicolon (name_text name)

-- a name that a value of type `Name` can be
abbrev pub IsNamed : Option DomainName → Type 0
IsNamed None = Unit {0}
IsNamed (Some name) = IsName name × HasOctets name
