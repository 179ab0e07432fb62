-- Why the parameters of a service binding are rejected (RFC 9460, 2.2).
use Rattle.std.specs.Prelude.{◌≡◌, ◌⊎◌, ℕ, ◌+◌, ◌<◌, ◌≤◌, List, [], ◌∷◌, ◌++◌, length, Option, Some, None}
use Rattle.dns_types.specs.declared.error.DecodeError.{DecodeError}
use Rattle.dns_types.specs.declared.error.DecodeError.TheVariants as decode
use Rattle.dns_fields.specs.declared.Kind.TheVariants.{Number, Rest, Parameters}
use Rattle.dns_fields.specs.Octets.{At}
use Rattle.dns_fields.specs.Tlvs.{tlv, IsTlv, Numbered, ParameterValue, Rising}
use Rattle.dns_rows.specs.Rules.{HasText, HaveTexts}
use Rattle.dns_names_wire.specs.{State.Reading, Terms.Took, Terms.TookField, Terms.LacksOctets}
use Rattle.dns_check.specs.ParameterValues.{IsKeyError}

-- a key's number is greater than the last one
abbrev pub IsAbove : Option ℕ → ℕ → Type 0
IsAbove None key = Unit {0}
IsAbove (Some last) key = last < key

-- key, length and these octets are encoded there
pub record IsTlvAt (octets : List ℕ) (offset key : ℕ) (body : List ℕ) (to : ℕ) : Type 0 where
  pub at : At octets offset (tlv (key, body)) to
  pub fits : IsTlv (key, body)

-- one parameter of this key is taken, and its value is UTF-8 if the key asks for that
pub record TookParameter (old : Reading) (key : ℕ) (new : Reading) : Type 0 where
  pub value : ParameterValue
  pub took : TookField old Parameters ((key, value) ∷ []) new
  pub text : HasText key value

-- octets of a key or of a length are missing
abbrev pub LacksTwo : Reading → DecodeError → Reading → Type 0
LacksTwo old e new = (e ≡ decode.InsufficientBytes) × LacksOctets old 2 × (new ≡ old)

-- the octets of a key are missing, or, after a key, those of a length
abbrev pub LacksHead : Reading → DecodeError → Reading → Type 0
LacksHead old e new = LacksTwo old e new
    ⊎ ((key : ℕ) × (between : Reading) × TookField old (Number 2) key between × LacksTwo between e new)

-- key and length are taken, and fewer octets are left
pub record TruncatedValue (old : Reading) (e : DecodeError) (new : Reading) : Type 0 where
  pub key : ℕ
  pub size : ℕ
  pub left : ℕ
  pub took : Took old (Number 2 ∷ Number 2 ∷ []) (key, (size, tt)) new
  pub error : e ≡ decode.IncorrectRDataLengthRead left size
  pub all : new.index + left ≡ length new.message
  pub truncated : left < size

-- key, length and the octets of the value are taken, and they are no value of the key
pub record RefusedValue (old : Reading) (e : DecodeError) (new : Reading) : Type 0 where
  pub key : ℕ
  pub octets : List ℕ
  pub took : Took old (Number 2 ∷ Number 2 ∷ Rest ∷ []) (key, (length octets, (octets, tt))) new
  pub refused : IsKeyError key octets e

-- one parameter: octets of key or length are missing, or the value is truncated or rejected
abbrev pub IsParameterError : Reading → DecodeError → Reading → Type 0
IsParameterError old e new = LacksHead old e new ⊎ (TruncatedValue old e new ⊎ RefusedValue old e new)

-- parameters are taken, whose paths are UTF-8, and at least four octets are left before the end
pub record ParametersBefore (end : ℕ) (old between : Reading) : Type 0 where
  pub values : List (Numbered ParameterValue)
  pub took : TookField old Parameters values between
  pub texts : HaveTexts values
  pub room : between.index + 4 ≤ end

-- after parameters one is rejected
pub record RefusedParameter (end : ℕ) (old : Reading) (e : DecodeError) (new : Reading) : Type 0 where
  pub between : Reading
  pub before : ParametersBefore end old between
  pub refused : IsParameterError between e new

-- after parameters one is taken whose key is not greater than theirs
pub record WrongOrder (end : ℕ) (old : Reading) (e : DecodeError) (new : Reading) : Type 0 where
  pub between : Reading
  pub before : ParametersBefore end old between
  pub key : ℕ
  pub then : TookParameter between key new
  pub error : e ≡ decode.SvcParamsOutOfOrder
  pub order : Rising (before.values ++ (key, then.value) ∷ []) → ⊥

-- after parameters one of a greater key is taken, which ends beyond the n octets of RDATA from the offset p
pub record PassedParameters (p n : ℕ) (old : Reading) (e : DecodeError) (new : Reading) : Type 0 where
  pub between : Reading
  pub before : ParametersBefore (p + n) old between
  pub key : ℕ
  pub then : TookParameter between key new
  pub order : Rising (before.values ++ (key, then.value) ∷ [])
  pub size : ℕ
  pub error : e ≡ decode.IncorrectRDataLengthRead size n
  pub passed : n < size
  pub index : new.index ≡ p + size

-- parameters to the end of n octets of RDATA from p
abbrev pub IsParametersError : ℕ → ℕ → Reading → DecodeError → Reading → Type 0
IsParametersError p n old e new =
    RefusedParameter (p + n) old e new ⊎ (WrongOrder (p + n) old e new ⊎ PassedParameters p n old e new)
