-- Tokens of service parameters (RFC 9460, 2.1 and appendix A; RFC 9461, 5).
use Rattle.std.specs.Prelude.{◌≡◌, ◌≢◌, ◌⊎◌, ℕ, List, [], ◌∷◌, ◌++◌, All, Ok, codes}
use Rattle.std.specs.{List.AllZip, Net.Grammar.IsIpv4Text, Net.Grammar.IsIpv6Text}
use Rattle.base64.specs.{Engines.standard, GeneralPurpose.decode_of}
use Rattle.dns_tokens.specs.Lists.{IsItem, segments_of}
use Rattle.dns_tokens.specs.Forms.{IsNumberToken}
use Rattle.dns_rdata_service.specs.{Parameters.Parameter, declared.svcb.key.SvcParamKey.SvcParamKey, SvcParamKey.key_text}
use Rattle.dns_rdata_service.specs.declared.svcb.value.SvcParamValue.{SvcParamValue}
use Rattle.dns_rdata_service.specs.declared.svcb.key.SvcParamKey.TheVariants.{Key, Key65535, Unknown}
use Rattle.dns_rdata_service.specs.declared.svcb.key.SvcParamKey.TheVariants as keys
use Rattle.dns_rdata_service.specs.declared.svcb.value.SvcParamValue.TheVariants as values

-- `key` and a number of 16 bits
pub record IsNumberedKey (text : List ℕ) (n : ℕ) : Type 0 where
  pub digits : List ℕ
  pub spelled : text ≡ codes "key" ++ digits
  pub number : IsNumberToken 16 n digits

-- A key with a name of its own has that text. `key` and a number is the key with this number, except `key65535`. A key
-- with another number has no text.
abbrev pub IsKeyText : List ℕ → SvcParamKey → Type 0
IsKeyText text (Key n) = IsNumberedKey text n × (text ≢ key_text Key65535)
IsKeyText text (Unknown n) = ⊥
IsKeyText text key = text ≡ key_text key

-- the text's item (its first token, a character string) is the text of x
pub record ItemOf {T : Type 0} (Is : List ℕ → T → Type 0) (text : List ℕ) (x : T) : Type 0 where
  pub item : List ℕ
  pub is_item : IsItem text item
  pub is : Is item x

-- the item of each segment of the list is the text of the value with the same index
pub record ListOf {T : Type 0} (Is : List ℕ → T → Type 0) (text : List ℕ) (xs : List T) : Type 0 where
  pub each : AllZip (ItemOf Is) (segments_of text) xs

-- the item's octets as they are
pub record IsItself (item octets : List ℕ) : Type 0 where
  pub same : octets ≡ item

-- ---- values

-- The value of a key that nothing follows: no-default-alpn has none, and that of a key without a format is empty.
abbrev pub IsValueAlone : SvcParamKey → SvcParamValue → Type 0
IsValueAlone keys.NoDefaultAlpn values.NoDefaultAlpn = Unit {0}
IsValueAlone (keys.Key n) (values.Unknown x) = x.0 ≡ []
IsValueAlone key value = ⊥

-- The value of a key with this text after `=`: a list of keys, of names or of addresses; an item that is a number,
-- base64 (RFC 4648, 4) or a path; for a key without a format the octets of the text. Other keys have none.
abbrev pub IsValueText : SvcParamKey → List ℕ → SvcParamValue → Type 0
IsValueText keys.Mandatory text (values.Mandatory x) = ListOf IsKeyText text x.0
IsValueText keys.Alpn text (values.Alpn x) = ListOf IsItself text x.0
IsValueText keys.Port text (values.Port n) = ItemOf (λ item port. IsNumberToken 16 port item) text n
IsValueText keys.Ipv4Hint text (values.Ipv4Hint x) = ListOf (λ item a. IsIpv4Text item a.0) text x.0
IsValueText keys.EchConfigList text (values.EchConfigList x) =
    ItemOf (λ item config. decode_of standard item ≡ Ok config.0) text x
IsValueText keys.Ipv6Hint text (values.Ipv6Hint x) = ListOf (λ item a. IsIpv6Text item a.0) text x.0
IsValueText keys.DohPath text (values.DohPath x) = ItemOf IsItself text x.0
IsValueText (keys.Key n) text (values.Unknown x) = x.0 ≡ text
IsValueText key text value = ⊥

-- ---- tokens

-- the text is in quotes
abbrev pub IsQuoted : List ℕ → List ℕ → Type 0
IsQuoted value text = value ≡ 34 ∷ (text ++ 34 ∷ [])

-- quotes around a value are not part of its text; only one quote is no value
abbrev pub IsUnquoted : List ℕ → List ℕ → Type 0
IsUnquoted value text = IsQuoted value text
    ⊎ ((text ≡ value) × (value ≢ 34 ∷ []) × ((inner : List ℕ) → IsQuoted value inner → ⊥))

-- the text has no `=`
abbrev pub HasNoEquals : List ℕ → Type 0
HasNoEquals text = All (λ c. c ≢ 61) text

-- a key alone
pub record IsKeyAlone (token : List ℕ) (p : Parameter) : Type 0 where
  pub no_equals : HasNoEquals token
  pub key : IsKeyText token p.0
  pub value : IsValueAlone p.0 p.1

-- a value for the parameter's key, in quotes or without
pub record HasValue (behind : List ℕ) (p : Parameter) : Type 0 where
  pub text : List ℕ
  pub unquoted : IsUnquoted behind text
  pub value : IsValueText p.0 text p.1

-- a key, the first `=`, and a value
pub record IsKeyWithValue (token : List ℕ) (p : Parameter) : Type 0 where
  pub front : List ℕ
  pub behind : List ℕ
  pub split : token ≡ front ++ 61 ∷ behind
  pub first : HasNoEquals front
  pub key : IsKeyText front p.0
  pub value : HasValue behind p

-- the token of a parameter
abbrev pub IsParameterToken : List ℕ → Parameter → Type 0
IsParameterToken token p = IsKeyAlone token p ⊎ IsKeyWithValue token p
