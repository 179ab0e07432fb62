-- What the code keeps.
use Rattle.std.specs.Prelude.{◌≡◌, ℕ, ◌+◌, ◌<◌, take, drop, map, List, [], ◌∷◌, ◌++◌, length, Result, Ok, Err, Option, Some, None, true, ◌≢◌, codes}
use Rattle.std.specs.{Prelude.◌≤◌, Prelude.◌⊎◌, Prelude.slice_index, Str.Parse.IsNumeral, Str.Parse.digits_value}
use Rattle.dns_types.specs.declared.error.ParseError.{ParseError}
use Rattle.dns_tokens.specs.Reads.{UnlessParseMemory, HoldsOfNone}
use Rattle.dns_zone_tokens.specs.{Remaining.with_tokens, Remaining.NoneOfAll, declared.tokens_error.TokensError.TokensError, Tokens.Token, Tokens.Cursor}
use Rattle.dns_zone_tokens.specs.{Tokens.tokens_at, Tokens.with_token, Letters.letters, Letters.octet_of, Letters.escapes_stand}
use Rattle.dns_rdata_service.specs.declared.svcb.key.SvcParamKey.{SvcParamKey}
use Rattle.dns_zone_rows.specs.{ParameterViews.parameter_value, declared.parameters.parameter.Parameter.Parameter as CodeParameter, ParameterLists.items_in, ParameterLists.IsItem}
use Rattle.dns_zone_rows.specs.{ParameterValues.HasOctets, ParameterValues.IsPlain, declared.parameters.lists.ListItem.ListItem}
use Rattle.dns_zone_rows.specs.Parameters.{Parameter, IsQuotedValue, IsWritten, HasParameter, IsParameter, AreWritten}

-- of `key` and digits: one digit, or more without a `0` or a `+` before them
abbrev pub IsShortest : List ℕ → Type 0
IsShortest text = (length text ≡ 4) ⊎ ((4 < length text) × (slice_index text 3 ≢ 48) × (slice_index text 3 ≢ 43))

-- the number is the first that is not less than the next
pub record IsFirstFall (n : ℕ) (numbers : List ℕ) : Type 0 where
  pub index : ℕ
  pub inside : index + 1 < length numbers
  pub here : n ≡ slice_index numbers index
  pub falls : slice_index numbers (index + 1) ≤ n
  pub before : (k : ℕ) → k < index → slice_index numbers k < slice_index numbers (k + 1)

-- the first item of the text has so many octets
pub record ItemTaken (text : List ℕ) (n : ℕ) : Type 0 where
  pub last : n ≡ length text → items_in text ≡ text ∷ []
  pub more : n < length text → items_in text ≡ take n text ∷ items_in (drop (n + 1) text)

-- the text begins with this item, and after it comes nothing, or a comma and this rest
abbrev pub DividesItem : List ℕ → List ℕ → Option (List ℕ) → Type 0
DividesItem text item None = items_in text ≡ item ∷ []
DividesItem text item (Some rest) = items_in text ≡ item ∷ items_in rest

-- the octets of the item were appended
pub record ItemPushed (item : ListItem) (text old new : List ℕ) : Type 0 where
  pub part : List ℕ
  pub is : IsItem item text part
  pub same : new ≡ old ++ part

-- appends the octets of an item exactly if it has octets
abbrev pub PushesItem : {T : Type 0} → ListItem → List ℕ → Result T ParseError → List ℕ → List ℕ → Type 0
PushesItem item text (Ok x) old new = ItemPushed item text old new
PushesItem item text (Err e) old new = UnlessParseMemory e (HoldsOfNone (IsItem item text))

-- the text cannot be divided into tokens
pub record IsUndivided (cursor : Cursor) : Type 0 where
  pub why : TokensError
  pub undivided : tokens_at cursor ≡ Err why

-- a token in quotes was taken, which directly follows the one before
pub record TookQuoted (value : List ℕ) (old new : Cursor) : Type 0 where
  pub token : Token
  pub divided : tokens_at old ≡ with_token token (tokens_at new)
  pub is : IsQuotedValue token
  pub same : value ≡ token.octets

-- no such token is there
pub record NoQuoted (cursor : Cursor) : Type 0 where
  pub none : (token : Token) (tokens : List Token) → tokens_at cursor ≡ Ok (token ∷ tokens) → IsQuotedValue token → ⊥

-- the tokens that are left are parameters
pub record AreLeft (left : Cursor) : Type 0 where
  pub others : List Parameter
  pub tokens : List Token
  pub divided : tokens_at left ≡ Ok tokens
  pub written : AreWritten others tokens

-- the next parameter was taken, of this name and value; if the tokens are parameters, so are those that are left
pub record TookWritten (name value : List ℕ) (old new : Cursor) : Type 0 where
  pub front : List Token
  pub divided : tokens_at old ≡ with_tokens front (tokens_at new)
  pub written : IsWritten name value front
  pub only : (all : List Parameter) (tokens : List Token) → tokens_at old ≡ Ok tokens → AreWritten all tokens
      → (p : Parameter) × HasParameter name value p × AreLeft new

-- the next parameter was taken, and is this one
pub record TookParameter (p : Parameter) (old new : Cursor) : Type 0 where
  pub front : List Token
  pub divided : tokens_at old ≡ with_tokens front (tokens_at new)
  pub is : IsParameter p front
  pub only : (all : List Parameter) (tokens : List Token) → tokens_at old ≡ Ok tokens → AreWritten all tokens
      → AreLeft new

-- takes the next parameter exactly if the tokens begin with one; at their end there is none
abbrev pub ReadsNext : Result (Option CodeParameter) ParseError → Cursor → Cursor → Type 0
ReadsNext (Ok (Some p)) old new = TookParameter (parameter_value p) old new
ReadsNext (Ok None) old new = tokens_at old ≡ Ok []
ReadsNext (Err e) old new = UnlessParseMemory e (NoneOfAll AreWritten old)

-- the remaining tokens are these parameters
pub record TookParameters (ps : List Parameter) (cursor : Cursor) : Type 0 where
  pub tokens : List Token
  pub divided : tokens_at cursor ≡ Ok tokens
  pub written : AreWritten ps tokens

-- reads parameters exactly if the remaining tokens are parameters
abbrev pub ReadsParameters : {T : Type 0} → (T → List CodeParameter) → Result T ParseError → Cursor → Type 0
ReadsParameters view (Ok x) cursor = TookParameters (map parameter_value (view x)) cursor
ReadsParameters view (Err e) cursor = UnlessParseMemory e (NoneOfAll AreWritten cursor)

-- the octets of the letters of the text have these octets on the wire, of any length
pub record HasMeant (key : SvcParamKey) (text octets : List ℕ) : Type 0 where
  pub plain : IsPlain key text
  pub escapes : escapes_stand text ≡ true
  pub has : HasOctets key (map octet_of (letters text)) octets
