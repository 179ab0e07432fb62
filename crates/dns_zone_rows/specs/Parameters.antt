-- Service parameters in texts of zone files (RFC 9460, 2.1 and 2.2).
use Rattle.std.specs.Prelude.{◌≡◌, ℕ, ◌==◌, Bool, true, false, List, [], ◌∷◌, ◌++◌, IsPermutation}
use Rattle.std.specs.List.{before_first, after_first}
use Rattle.dns_fields.specs.Tlvs.{Numbered, tlvs, Rising}
use Rattle.dns_zone_tokens.specs.Tokens.{Token}
use Rattle.dns_rdata_service.specs.{SvcParamKey.key_number, declared.svcb.key.SvcParamKey.SvcParamKey}
use Rattle.dns_zone_rows.specs.{ParameterKeys.IsKeyName, ParameterValues.IsValue}

-- a parameter: the number of its key, and the octets of its value
abbrev pub Parameter : Type 0
Parameter = Numbered (List ℕ)

abbrev pub is_equals : ℕ → Bool
is_equals c = c == 61

-- the octets of a token before its first `=`, and those after it
abbrev pub name_in : List ℕ → List ℕ
name_in token = before_first is_equals token

abbrev pub value_in : List ℕ → List ℕ
value_in token = after_first is_equals token

-- the token has no quotes and does not directly follow another
pub record StandsAlone (token : Token) : Type 0 where
  pub bare : token.quoted ≡ false
  pub apart : token.joined ≡ false

-- the token is in quotes and directly follows another
pub record IsQuotedValue (token : Token) : Type 0 where
  pub quoted : token.quoted ≡ true
  pub joined : token.joined ≡ true

-- The tokens are one parameter of this name and value: `key`, which has an empty value, `key=value`, or `key=` and the
-- value in quotes.
abbrev pub IsWritten : List ℕ → List ℕ → List Token → Type 0
IsWritten name value (token ∷ []) = StandsAlone token × (name ≡ name_in token.octets) × (value ≡ value_in token.octets)
IsWritten name value (token ∷ behind ∷ []) =
    StandsAlone token × (token.octets ≡ name ++ 61 ∷ []) × (name ≡ name_in token.octets) × IsQuotedValue behind
    × (value ≡ behind.octets)
IsWritten name value tokens = ⊥

-- a key of this name, and the octets of this value
pub record HasParameter (name value : List ℕ) (p : Parameter) : Type 0 where
  pub key : SvcParamKey
  pub named : IsKeyName key name
  pub number : p.0 ≡ key_number key
  pub octets : IsValue key value p.1

-- the tokens are this parameter
pub record IsParameter (p : Parameter) (tokens : List Token) : Type 0 where
  pub name : List ℕ
  pub value : List ℕ
  pub written : IsWritten name value tokens
  pub has : HasParameter name value p

-- the tokens are these parameters, one after the other
abbrev pub AreWritten : List Parameter → List Token → Type 0
AreWritten [] tokens = tokens ≡ []
AreWritten (p ∷ ps) tokens =
    (front behind : List Token) × (tokens ≡ front ++ behind) × IsParameter p front × AreWritten ps behind

-- The tokens are parameters that have these octets on the wire: key, length and value of each, in the order of their
-- keys, of which none comes twice.
pub record AreParameters (octets : List ℕ) (tokens : List Token) : Type 0 where
  pub parameters : List Parameter
  pub written : AreWritten parameters tokens
  pub order : List Parameter
  pub same : IsPermutation parameters order
  pub rising : Rising order
  pub wire : octets ≡ tlvs order
