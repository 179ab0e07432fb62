-- The values of service parameters, and why octets are none (RFC 9460, 7 and 8; RFC 9461, 5).
use Rattle.std.specs.Prelude.{◌≡◌, ◌≢◌, ◌⊎◌, ℕ, ◌%◌, ◌<◌, true, List, [], ◌∷◌, ◌++◌, length, IsUtf8}
use Rattle.std.specs.List.{flat_map, AllByRecursion}
use Rattle.dns_types.specs.declared.error.DecodeError.{DecodeError}
use Rattle.dns_types.specs.declared.error.DecodeError.TheVariants as decode
use Rattle.dns_fields.specs.Tlvs.{string, ParameterValue, ParameterForm, Keys, Names, Nothing, PortNumber, Addresses4}
use Rattle.dns_fields.specs.Tlvs.{Addresses16, AnyOctets, ParameterHeld, form_for, form_of, IsEmittable, IsBody}
use Rattle.dns_rows.specs.Rules.{is_text_key, HasText}

-- the octets hold a value of the key, and it is UTF-8 if the key asks for that
pub record HasValue (key : ℕ) (body : List ℕ) : Type 0 where
  pub value : ParameterValue
  pub held : ParameterHeld key body value
  pub text : HasText key value

pub record NoValue (key : ℕ) (body : List ℕ) : Type 0 where
  pub none : (v : ParameterValue) → ParameterHeld key body v → HasText key v → ⊥

-- a value of this format is in the octets
pub record HasForm (form : ParameterForm) (octets : List ℕ) : Type 0 where
  pub value : ParameterValue
  pub of : form_of value ≡ form
  pub emittable : IsEmittable value
  pub body : IsBody octets value

-- names of protocols, which are UTF-8, and after them one that has fewer octets than its length says
pub record TruncatedName (body : List ℕ) : Type 0 where
  pub names : List (List ℕ)
  pub size : ℕ
  pub octets : List ℕ
  pub split : body ≡ flat_map string names ++ size ∷ octets
  pub texts : AllByRecursion IsUtf8 names
  pub truncated : length octets < size

-- names of protocols, which are UTF-8, and after them one that is not
pub record WrongName (body : List ℕ) : Type 0 where
  pub names : List (List ℕ)
  pub name : List ℕ
  pub rest : List ℕ
  pub split : body ≡ flat_map string names ++ (string name ++ rest)
  pub texts : AllByRecursion IsUtf8 names
  pub wrong : IsUtf8 name → ⊥

-- why octets are no value of a format
abbrev pub IsFormError : ParameterForm → List ℕ → DecodeError → Type 0
IsFormError Keys body e =
    ((e ≡ decode.SvcParamMissingValue) × (body ≡ [])) ⊎ ((e ≡ decode.InsufficientBytes) × (length body % 2 ≡ 1))
IsFormError Names body e = ((e ≡ decode.SvcParamMissingValue) × (body ≡ []))
    ⊎ (((e ≡ decode.InsufficientBytes) × TruncatedName body) ⊎ ((e ≡ decode.Utf8) × WrongName body))
IsFormError Nothing body e = (e ≡ decode.IncorrectRDataLengthRead (length body) 0) × (body ≢ [])
IsFormError PortNumber body e = (e ≡ decode.InsufficientBytes) × (length body < 2)
IsFormError Addresses4 body e = (e ≡ decode.InsufficientBytes) × (length body % 4 ≢ 0)
IsFormError Addresses16 body e = (e ≡ decode.InsufficientBytes) × (length body % 16 ≢ 0)
IsFormError AnyOctets body e = ⊥

-- why octets are no value of a key: by the format of its values, or a path of DNS queries is not UTF-8
abbrev pub IsKeyError : ℕ → List ℕ → DecodeError → Type 0
IsKeyError key body e = IsFormError (form_for key) body e
    ⊎ ((is_text_key key ≡ true) × (e ≡ decode.Utf8) × (IsUtf8 body → ⊥))
