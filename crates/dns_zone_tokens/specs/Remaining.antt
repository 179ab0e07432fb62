-- All remaining tokens of a text: strings, base64, hexadecimal digits, and the unknown-data form (RFC 3597, 5).
use Rattle.std.specs.Prelude.{◌≡◌, ◌⊎◌, ℕ, ◌^◌, ◌%◌, ◌≢◌, ◌<◌, true, false, List, [], ◌∷◌, ◌++◌, Result, Ok, Err, length, codes}
use Rattle.std.specs.List.{AllZip, flat_map}
use Rattle.base64.specs.{Engines.standard, GeneralPurpose.decode_of as base64_of}
use Rattle.hex.specs.Hex.{decode_of as hex_of}
use Rattle.dns_types.specs.declared.error.ParseError.{ParseError}
use Rattle.dns_types.specs.declared.error.ParseError.TheVariants as parse
use Rattle.dns_tokens.specs.{Reads.UnlessParseMemory, declared.field.Field.Field}
use Rattle.dns_zone_tokens.specs.FieldTexts.{field_texts, hex_texts, number_called, hex_called}
use Rattle.dns_zone_tokens.specs.{declared.field.HexField.HexField, Forms.IsNumber, Forms.number, Forms.string, Errors.Says, Errors.undivided_text, Tokens.Token}
use Rattle.dns_zone_tokens.specs.{Tokens.Cursor, Tokens.tokens_at, Tokens.seen_at, Tokens.with_token, declared.tokens_error.TokensError.TokensError}
use Rattle.dns_zone_tokens.specs.ZoneReads.{TookFirst, WhyNoField}

-- tokens, and those after them
abbrev pub with_tokens : List Token → Result (List Token) TokensError → Result (List Token) TokensError
with_tokens [] behind = behind
with_tokens (token ∷ tokens) behind = with_token token (with_tokens tokens behind)

-- none of the tokens is in quotes
abbrev pub AllBare : List Token → Type 0
AllBare [] = Unit {0}
AllBare (token ∷ tokens) = (token.quoted ≡ false) × AllBare tokens

-- the octets of the tokens, one after the other
abbrev pub joined : List Token → List ℕ
joined tokens = flat_map (λ (token : Token). token.octets) tokens

-- the tokens, none in quotes, are these octets together
pub record AreJoined (octets : List ℕ) (tokens : List Token) : Type 0 where
  pub bare : AllBare tokens
  pub same : octets ≡ joined tokens

-- the tokens are these octets in hexadecimal digits, none or more
pub record AreHex (octets : List ℕ) (tokens : List Token) : Type 0 where
  pub bare : AllBare tokens
  pub digits : hex_of (joined tokens) ≡ Ok octets

-- the tokens are these octets in base64 (RFC 4648, 4), none or more
pub record AreBase64 (octets : List ℕ) (tokens : List Token) : Type 0 where
  pub bare : AllBare tokens
  pub digits : base64_of standard (joined tokens) ≡ Ok octets

-- After `\#`: a length of 16 bits, and so many octets in hexadecimal digits.
abbrev pub AreUnknown : List ℕ → List Token → Type 0
AreUnknown octets [] = ⊥
AreUnknown octets (first ∷ tokens) = IsNumber (length octets) first × (length octets < 2 ^ 16) × AreHex octets tokens

-- each token is a character string
abbrev pub AreStrings : List (List ℕ) → List Token → Type 0
AreStrings strings tokens = AllZip (λ token octets. string.is octets token) tokens strings

-- the token `\#` without quotes, which begins the unknown-data form
pub record IsUnknownMark (token : Token) : Type 0 where
  pub bare : token.quoted ≡ false
  pub octets : token.octets ≡ 92 ∷ 35 ∷ []

-- the remaining tokens have this value
pub record TookAll {V : Type 0} (is : V → List Token → Type 0) (v : V) (cursor : Cursor) : Type 0 where
  pub tokens : List Token
  pub divided : tokens_at cursor ≡ Ok tokens
  pub value : is v tokens

-- the text cannot be divided into tokens, or they have no value
pub record NoneOfAll {V : Type 0} (is : V → List Token → Type 0) (cursor : Cursor) : Type 0 where
  pub none : (v : V) (tokens : List Token) → tokens_at cursor ≡ Ok tokens → is v tokens → ⊥

-- reads the remaining tokens exactly if they have a value
abbrev pub ReadsAll : {T V : Type 0} → (V → List Token → Type 0) → (T → V) → Result T ParseError → Cursor → Type 0
ReadsAll is view (Ok x) cursor = TookAll is (view x) cursor
ReadsAll is view (Err e) cursor = UnlessParseMemory e (NoneOfAll is cursor)

-- all remaining tokens give these octets, which were appended
pub record PutAll (gives : List ℕ → List Token → Type 0) (before after : List ℕ) (cursor : Cursor) : Type 0 where
  pub tokens : List Token
  pub divided : tokens_at cursor ≡ Ok tokens
  pub octets : List ℕ
  pub given : gives octets tokens
  pub same : after ≡ before ++ octets

-- takes all tokens exactly if they give octets, and appends these
abbrev pub PutsAll : {T : Type 0} → (List ℕ → List Token → Type 0) → Result T ParseError → List ℕ → List ℕ → Cursor
    → Type 0
PutsAll gives (Ok x) before after cursor = PutAll gives before after cursor
PutsAll gives (Err e) before after cursor = UnlessParseMemory e (NoneOfAll gives cursor)

-- none of the tokens has a fault
abbrev pub NoneHas : (Token → ParseError → Type 0) → List Token → Type 0
NoneHas fault [] = Unit {0}
NoneHas fault (token ∷ tokens) = ((e : ParseError) → fault token e → ⊥) × NoneHas fault tokens

-- one of the tokens is the first that has a fault, and the error says which fault
pub record OneFault (fault : Token → ParseError → Type 0) (cursor : Cursor) (e : ParseError) : Type 0 where
  pub front : List Token
  pub token : Token
  pub others : List Token
  pub seen : seen_at cursor ≡ front ++ token ∷ others
  pub before : NoneHas fault front
  pub has : fault token e

-- the text cannot be divided into tokens, and none that precedes the octet at which it is rejected has a fault
abbrev pub UndividedFault : (Token → ParseError → Type 0) → Cursor → ParseError → Type 0
UndividedFault fault cursor e =
    (why : TokensError) × (tokens_at cursor ≡ Err why) × Says (undivided_text why) e × NoneHas fault (seen_at cursor)

-- the first token with a fault has this one; or none has, and the text cannot be divided into tokens
abbrev pub AmongFault : (Token → ParseError → Type 0) → Cursor → ParseError → Type 0
AmongFault fault cursor e = UndividedFault fault cursor e ⊎ OneFault fault cursor e

-- the token is in quotes
abbrev pub QuotesFault : ParseError → Token → ParseError → Type 0
QuotesFault wrong token e = (e ≡ wrong) × (token.quoted ≡ true)

-- The tokens are not hexadecimal digits: the number of digits is odd, or another character is among them.
pub record DigitsFault (field : HexField) (cursor : Cursor) (e : ParseError) : Type 0 where
  pub tokens : List Token
  pub divided : tokens_at cursor ≡ Ok tokens
  pub bare : AllBare tokens
  pub why : ((e ≡ parse.Message field.odd) × (length (joined tokens) % 2 ≡ 1))
      ⊎ ((e ≡ parse.Message field.digit) × (length (joined tokens) % 2 ≢ 1)
      × ((octets : List ℕ) → hex_of (joined tokens) ≡ Ok octets → ⊥))

-- the text cannot be divided into tokens, one of them is in quotes, or they are not hexadecimal digits
abbrev pub HexFault : HexField → Cursor → ParseError → Type 0
HexFault field cursor e = AmongFault (QuotesFault (parse.Message field.quoted)) cursor e ⊎ DigitsFault field cursor e

-- the tokens, none of them in quotes, are no base64
pub record NoBase64 (wrong : ParseError) (cursor : Cursor) (e : ParseError) : Type 0 where
  pub says : e ≡ wrong
  pub tokens : List Token
  pub divided : tokens_at cursor ≡ Ok tokens
  pub bare : AllBare tokens
  pub none : (octets : List ℕ) → base64_of standard (joined tokens) ≡ Ok octets → ⊥

-- the text cannot be divided into tokens, one of them is in quotes, or they are no base64
abbrev pub Base64Fault : ParseError → Cursor → ParseError → Type 0
Base64Fault wrong cursor e = AmongFault (QuotesFault wrong) cursor e ⊎ NoBase64 wrong cursor e

-- ---- why tokens are not unknown data

-- the tokens are hexadecimal digits, but not of n octets
pub record OtherNumber (n : ℕ) (cursor : Cursor) (e : ParseError) : Type 0 where
  pub says : Says (codes "unknown data is not as many octets as its length says") e
  pub octets : List ℕ
  pub took : TookAll AreHex octets cursor
  pub other : length octets ≢ n

-- no number of 16 bits comes first, and the error calls it the length of unknown data
pub record LengthFault (cursor : Cursor) (e : ParseError) : Type 0 where
  pub field : Field
  pub called : field_texts field ≡ number_called (codes "length of unknown data")
  pub why : WhyNoField (number 2) field cursor e

-- the tokens are no hexadecimal digits, and the error says so of the unknown data
pub record DigitsOfData (cursor : Cursor) (e : ParseError) : Type 0 where
  pub field : HexField
  pub called : hex_texts field ≡ hex_called (codes "unknown data")
  pub why : HexFault field cursor e

-- after the length there are no hexadecimal digits, or they are of another number of octets
pub record DataFault (cursor : Cursor) (e : ParseError) : Type 0 where
  pub n : ℕ
  pub behind : Cursor
  pub took : TookFirst (number 2) n cursor behind
  pub why : DigitsOfData behind e ⊎ OtherNumber n behind e

-- there is no length of 16 bits, which the error calls the length; or after it the data has a fault
abbrev pub UnknownFault : Cursor → ParseError → Type 0
UnknownFault cursor e = LengthFault cursor e ⊎ DataFault cursor e
