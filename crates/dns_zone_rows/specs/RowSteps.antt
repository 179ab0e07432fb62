-- What the code of zone rows does, step by step.
use Rattle.std.specs.Prelude.{◌≡◌, List, ◌∷◌, ◌++◌, ℕ, Result, Ok, Err}
use Rattle.dns_types.specs.declared.error.ParseError.{ParseError}
use Rattle.dns_tokens.specs.Reads.{UnlessParseMemory}
use Rattle.dns_zone_tokens.specs.Tokens.{Token, Cursor, tokens_at, seen_at, with_token}

-- the first token was taken, and the octets that it gives were appended
pub record AddedFirst (gives : List ℕ → Token → Type 0) (before after : List ℕ) (old new : Cursor) : Type 0 where
  pub token : Token
  pub first : tokens_at old ≡ with_token token (tokens_at new)
  pub seen : seen_at old ≡ token ∷ seen_at new
  pub octets : List ℕ
  pub given : gives octets token
  pub same : after ≡ before ++ octets

-- no first token gives octets
pub record NoFirstGives (gives : List ℕ → Token → Type 0) (cursor : Cursor) : Type 0 where
  pub none : (octets : List ℕ) (token : Token) (tokens : List Token) → tokens_at cursor ≡ Ok (token ∷ tokens)
      → gives octets token → ⊥

-- takes the first token exactly if it gives octets, and appends these
abbrev pub AddsFirst : {T : Type 0} → (List ℕ → Token → Type 0) → Result T ParseError → List ℕ → List ℕ → Cursor
    → Cursor
    → Type 0
AddsFirst gives (Ok x) before after old new = AddedFirst gives before after old new
AddsFirst gives (Err e) before after old new = UnlessParseMemory e (NoFirstGives gives old)

-- octets that the token gives were appended
pub record PutField (gives : List ℕ → Token → Type 0) (before after : List ℕ) (token : Token) : Type 0 where
  pub octets : List ℕ
  pub given : gives octets token
  pub same : after ≡ before ++ octets

-- the token gives no octets
pub record GivesNone (gives : List ℕ → Token → Type 0) (token : Token) : Type 0 where
  pub none : (octets : List ℕ) → gives octets token → ⊥

-- appends the octets that the token gives, exactly if it gives some
abbrev pub PutsField : {T : Type 0} → (List ℕ → Token → Type 0) → Result T ParseError → List ℕ → List ℕ → Token → Type 0
PutsField gives (Ok x) before after token = PutField gives before after token
PutsField gives (Err e) before after token = UnlessParseMemory e (GivesNone gives token)
