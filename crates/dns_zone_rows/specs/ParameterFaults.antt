-- Why tokens are no parameters, and what the error says.
use Rattle.std.specs.Prelude.{◌≡◌, ◌⊎◌, ℕ, suc, ◌+◌, ◌++◌, ◌<◌, ◌≤◌, if◌then◌else◌, true, false, List, length, map, slice_index, Result, Ok, Err, codes}
use Rattle.std.specs.Prelude.{IsPermutation}
use Rattle.dns_fields.specs.Tlvs.{Rising}
use Rattle.dns_types.specs.declared.error.ParseError.{ParseError}
use Rattle.dns_tokens.specs.Reads.{HoldsOfNone}
use Rattle.dns_zone_tokens.specs.{Letters.letters, Letters.octet_of, Letters.escapes_stand, Errors.Says, Errors.undivided_text, Remaining.with_tokens}
use Rattle.dns_zone_tokens.specs.{Tokens.Token, Tokens.Cursor, Tokens.tokens_at, Tokens.with_token, declared.tokens_error.TokensError.TokensError}
use Rattle.dns_rdata_service.specs.{SvcParamKey.is_unnamed, SvcParamKey.key_of, SvcParamKey.key_text, declared.svcb.key.SvcParamKey.SvcParamKey}
use Rattle.dns_zone_rows.specs.{ParameterKeys.IsKeyName, ParameterValues.HasOctets, ParameterValues.IsPlain, ParameterValues.wrong_value}
use Rattle.dns_zone_rows.specs.Parameters.{Parameter, StandsAlone, IsWritten, AreWritten}

-- the octets that the letters of a text are
abbrev pub meant : List ℕ → List ℕ
meant text = map octet_of (letters text)

-- the value has more octets than a length of 16 bits can say
pub record IsLong (key : SvcParamKey) (text : List ℕ) : Type 0 where
  pub octets : List ℕ
  pub has : HasOctets key (meant text) octets
  pub long : 65535 < length octets

-- A text is no value of the key: it has a `\` and the key forbids escapes, a `\` has no meaning, the octets of the
-- letters do not have the key's format, or the value is too long.
abbrev pub ValueFault : SvcParamKey → List ℕ → ParseError → Type 0
ValueFault key text e =
    (Says (wrong_value key) e × (IsPlain key text → ⊥))
    ⊎ (Says (codes "`\\` without a meaning in a service parameter") e × IsPlain key text × (escapes_stand text ≡ false))
    ⊎ (Says (wrong_value key) e × IsPlain key text × (escapes_stand text ≡ true)
    × HoldsOfNone (HasOctets key (meant text)))
    ⊎ (Says (codes "service parameter of more than 65535 octets") e × IsPlain key text × (escapes_stand text ≡ true)
    × IsLong key text)

-- A name and a value are no parameter: the name is of no key, or the value is not one of the key.
abbrev pub ParameterFault : List ℕ → List ℕ → ParseError → Type 0
ParameterFault name value e =
    (Says (codes "no key of a service parameter") e × HoldsOfNone (λ key. IsKeyName key name))
    ⊎ ((key : SvcParamKey) × IsKeyName key name × ValueFault key value e)

-- tokens, or why a text cannot be divided into tokens
abbrev pub TokenList : Type 0
TokenList = Result (List Token) TokensError

-- the next token is in quotes, or directly follows another
pub record TokenFault (tokens : TokenList) (e : ParseError) : Type 0 where
  pub token : Token
  pub behind : TokenList
  pub divided : tokens ≡ with_token token behind
  pub other : StandsAlone token → ⊥
  pub says : Says (codes "service parameter in quotes or directly after another token") e

-- the next tokens are written as a parameter and are none
pub record WrittenFault (tokens : TokenList) (e : ParseError) : Type 0 where
  pub front : List Token
  pub behind : TokenList
  pub divided : tokens ≡ with_tokens front behind
  pub name : List ℕ
  pub value : List ℕ
  pub written : IsWritten name value front
  pub has : ParameterFault name value e

-- No parameter comes next: the text cannot be divided into tokens, or the next token is in quotes or directly follows
-- another, or is no parameter.
abbrev pub NextFault : TokenList → ParseError → Type 0
NextFault tokens e =
    ((why : TokensError) × (tokens ≡ Err why) × Says (undivided_text why) e) ⊎ TokenFault tokens e
    ⊎ WrittenFault tokens e

-- after parameters, none or more, follows none
pub record FaultBehind (cursor : Cursor) (e : ParseError) : Type 0 where
  pub parameters : List Parameter
  pub front : List Token
  pub behind : TokenList
  pub divided : tokens_at cursor ≡ with_tokens front behind
  pub written : AreWritten parameters front
  pub has : NextFault behind e

-- the text of the error for a key that comes twice, by its number
abbrev pub twice_text : ℕ → List ℕ
twice_text n =
    if is_unnamed (key_of n) then codes "key of a service parameter twice"
    else codes "service parameter " ++ key_text (key_of n) ++ codes " twice"

-- no key is greater than the next
abbrev pub InOrder : List ℕ → Type 0
InOrder keys = (k : ℕ) → suc k < length keys → slice_index keys k ≤ slice_index keys (suc k)

-- of keys in order, this is the first that comes twice
pub record IsFirstTwice (key : ℕ) (keys : List ℕ) : Type 0 where
  pub index : ℕ
  pub inside : index + 1 < length keys
  pub here : slice_index keys index ≡ key
  pub again : slice_index keys (index + 1) ≡ key
  pub before : (k : ℕ) → k < index → slice_index keys k < slice_index keys (k + 1)

-- the tokens are parameters, and a key comes twice, so that no order of them rises; the error names the first such key
pub record KeyTwice (cursor : Cursor) (e : ParseError) : Type 0 where
  pub parameters : List Parameter
  pub tokens : List Token
  pub divided : tokens_at cursor ≡ Ok tokens
  pub written : AreWritten parameters tokens
  pub none : (order : List Parameter) → IsPermutation parameters order → Rising order → ⊥
  pub order : List Parameter
  pub same : IsPermutation parameters order
  pub climbs : InOrder (map (λ p. p.0) order)
  pub key : ℕ
  pub twice : IsFirstTwice key (map (λ p. p.0) order)
  pub says : Says (twice_text key) e

-- a parameter has a fault, or a key comes twice
abbrev pub ParametersFault : Cursor → ParseError → Type 0
ParametersFault cursor e = FaultBehind cursor e ⊎ KeyTwice cursor e
