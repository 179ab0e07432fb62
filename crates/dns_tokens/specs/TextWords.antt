-- The words of a whole text.
use Rattle.std.specs.Prelude.{◌≡◌, ℕ, List, [], ◌∷◌, ◌++◌, Option, Some, None}
use Rattle.dns_tokens.specs.Tokens.{TokenValue, FirstToken, NoToken}
use Rattle.dns_tokens.specs.Tokens.TokenValue.{blank, line_end, at, list, char_data}

-- A list gives its words, character data one, the end of a line and blanks none; a single `@` is rejected.
abbrev pub token_words : TokenValue → Option (List (List ℕ))
token_words blank = Some []
token_words line_end = Some []
token_words at = None
token_words (list words) = Some words
token_words (char_data word) = Some (word ∷ [])

-- The words that the text's tokens give, one after the other.
pub data TextWords : List (List ℕ) → List ℕ → Type 0 where
  ended : {text : List ℕ} → NoToken text → TextWords [] text
  token : {token : TokenValue} {front words all : List (List ℕ)} {text rest : List ℕ} → FirstToken token text rest
      → token_words token ≡ Some front
      → TextWords words rest → all ≡ front ++ words → TextWords all text

abbrev pub NoTextWords : List ℕ → Type 0
NoTextWords text = (words : List (List ℕ)) → TextWords words text → ⊥

-- the words of the token follow the earlier ones
pub record AddsWords (token : TokenValue) (old new : List (List ℕ)) : Type 0 where
  pub front : List (List ℕ)
  pub gives : token_words token ≡ Some front
  pub behind : new ≡ old ++ front
