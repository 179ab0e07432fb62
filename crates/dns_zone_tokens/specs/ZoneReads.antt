-- What a reader of tokens of a text does, exactly.
use Rattle.std.specs.Prelude.{◌≡◌, ◌⊎◌, ℕ, List, [], ◌∷◌, ◌++◌, Result, Ok, Err}
use Rattle.dns_types.specs.declared.error.ParseError.{ParseError}
use Rattle.dns_types.specs.declared.error.ParseError.TheVariants as parse
use Rattle.dns_fields.specs.{Fields.Value, declared.Kind.Kind}
use Rattle.dns_tokens.specs.{Reads.UnlessParseMemory, declared.field.Field.Field}
use Rattle.dns_zone_tokens.specs.{Forms.ZoneForm, Errors.Says, Errors.undivided_text, declared.tokens_error.TokensError.TokensError}
use Rattle.dns_zone_tokens.specs.Tokens.{Token, Cursor, tokens_at, seen_at, with_token}

-- no value has this token
pub record NoValueOf {k : Kind} (form : ZoneForm k) (token : Token) : Type 0 where
  pub none : (v : Value k) → form.is v token → ⊥

-- reads a token exactly if it has the form
abbrev pub ReadsAs : {T : Type 0} {k : Kind} → ZoneForm k → (T → Value k) → Result T ParseError → Token → Type 0
ReadsAs form view (Ok x) token = form.is (view x) token
ReadsAs form view (Err e) token = UnlessParseMemory e (NoValueOf form token)

-- a value of the token was appended, as it is written
pub record PutAs {k : Kind} (form : ZoneForm k) (written : Value k → List ℕ) (before after : List ℕ)
    (token : Token) : Type 0 where
  pub value : Value k
  pub is : form.is value token
  pub same : after ≡ before ++ written value

-- appends a value of the token exactly if it has the form
abbrev pub PutsAs : {T : Type 0} {k : Kind} → ZoneForm k → (Value k → List ℕ) → Result T ParseError → List ℕ → List ℕ
    → Token → Type 0
PutsAs form written (Ok x) before after token = PutAs form written before after token
PutsAs form written (Err e) before after token = UnlessParseMemory e (NoValueOf form token)

-- ---- the next token

-- the first token has the form
abbrev pub FirstHas : {k : Kind} → ZoneForm k → Value k → List Token → Type 0
FirstHas form v [] = ⊥
FirstHas form v (token ∷ tokens) = form.is v token

-- the first token was taken, and has this form and value
pub record TookFirst {k : Kind} (form : ZoneForm k) (v : Value k) (old new : Cursor) : Type 0 where
  pub token : Token
  pub first : tokens_at old ≡ with_token token (tokens_at new)
  pub seen : seen_at old ≡ token ∷ seen_at new
  pub is : form.is v token

-- the text has no tokens, or the first has no value of the form
pub record NoFirst {k : Kind} (form : ZoneForm k) (cursor : Cursor) : Type 0 where
  pub none : (v : Value k) (tokens : List Token) → tokens_at cursor ≡ Ok tokens → FirstHas form v tokens → ⊥

-- takes the first token exactly if it has the form
abbrev pub ReadsFirst : {T : Type 0} {k : Kind} → ZoneForm k → (T → Value k) → Result T ParseError → Cursor → Cursor
    → Type 0
ReadsFirst form view (Ok x) old new = TookFirst form (view x) old new
ReadsFirst form view (Err e) old new = UnlessParseMemory e (NoFirst form old)

-- no token precedes the octet at which the text is rejected, and the error says why it is
abbrev pub IsUndividedError : Cursor → ParseError → Type 0
IsUndividedError cursor e =
    (why : TokensError) × (tokens_at cursor ≡ Err why) × Says (undivided_text why) e × (seen_at cursor ≡ [])

-- no token is left, which the error says, or the text is rejected before the next one
abbrev pub LacksFirst : ParseError → Cursor → ParseError → Type 0
LacksFirst missing cursor e = ((e ≡ missing) × (tokens_at cursor ≡ Ok [])) ⊎ IsUndividedError cursor e

-- the first token has a fault, and the error says which
pub record FirstFault (fault : Token → ParseError → Type 0) (cursor : Cursor) (e : ParseError) : Type 0 where
  pub token : Token
  pub others : List Token
  pub seen : seen_at cursor ≡ token ∷ others
  pub has : fault token e

-- there is no first token, or it has a fault
abbrev pub WhyFirst : ParseError → (Token → ParseError → Type 0) → Cursor → ParseError → Type 0
WhyFirst missing fault cursor e = LacksFirst missing cursor e ⊎ FirstFault fault cursor e

-- the token has no value of the form, and the error says so
abbrev pub WrongToken : {k : Kind} → ZoneForm k → ParseError → Token → ParseError → Type 0
WrongToken form wrong token e = (e ≡ wrong) × NoValueOf form token

-- no token is left, or the first one has no value of the field's form; the error has the field's text for it
abbrev pub WhyNoField : {k : Kind} → ZoneForm k → Field → Cursor → ParseError → Type 0
WhyNoField form field = WhyFirst (parse.MissingToken field.name) (WrongToken form (parse.Message field.wrong))
