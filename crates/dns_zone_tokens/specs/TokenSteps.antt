-- What the code of tokens keeps.
use Rattle.std.specs.Prelude.{◌≡◌, ℕ, suc, ◌+◌, take, drop, length, Bool, true, false, List, [], ◌∷◌, ◌++◌, Ok, Err}
use Rattle.hex.specs.Hex.{decode_of as hex_of}
use Rattle.dns_zone_tokens.specs.{Spans.lefts_from, declared.tokens_error.TokensError.TokensError}
use Rattle.dns_zone_tokens.specs.Tokens.{begins_gap, between, run, quotes, tokens_read_from, seen_from, with_token}

-- the text does not begin with a gap
abbrev pub NoGap : List ℕ → Type 0
NoGap [] = Unit {0}
NoGap (c ∷ text) = begins_gap c ≡ false

-- the first n octets are a token without quotes, whatever precedes it
pub record RunTaken (text : List ℕ) (n : ℕ) : Type 0 where
  pub token : (depth : ℕ) (joined : Bool) → tokens_read_from (run depth joined []) text
      ≡ with_token (record { octets = take n text; quoted = false; joined = joined })
      (tokens_read_from (between depth true) (drop n text))
  pub seen : (depth : ℕ) (joined : Bool) → seen_from (run depth joined []) text
      ≡ record { octets = take n text; quoted = false; joined = joined } ∷ seen_from (between depth true) (drop n text)
  pub left : (depth : ℕ) (joined : Bool) → lefts_from (run depth joined []) text
      ≡ (length text, length (drop n text)) ∷ lefts_from (between depth true) (drop n text)

-- the first n octets are a token within quotes, and one more octet ends it
pub record QuotesTaken (text : List ℕ) (n : ℕ) : Type 0 where
  pub token : (depth : ℕ) (joined : Bool) → tokens_read_from (quotes depth joined []) text
      ≡ with_token (record { octets = take n text; quoted = true; joined = joined })
      (tokens_read_from (between depth true) (drop (n + 1) text))
  pub seen : (depth : ℕ) (joined : Bool) → seen_from (quotes depth joined []) text
      ≡ record { octets = take n text; quoted = true; joined = joined } ∷ seen_from (between depth true) (drop (n + 1) text)
  pub left : (depth : ℕ) (joined : Bool) → lefts_from (quotes depth joined []) text
      ≡ (suc (length text), length (drop (n + 1) text)) ∷ lefts_from (between depth true) (drop (n + 1) text)

-- no quotes end in the text
pub record QuotesRefused (text : List ℕ) (e : TokensError) : Type 0 where
  pub why : (depth : ℕ) (joined : Bool) → tokens_read_from (quotes depth joined []) text ≡ Err e
  pub seen : (depth : ℕ) (joined : Bool) → seen_from (quotes depth joined []) text ≡ []
  pub left : (depth : ℕ) (joined : Bool) → lefts_from (quotes depth joined []) text ≡ []

-- the octets of these digits were appended
pub record PutHex (digits before after : List ℕ) : Type 0 where
  pub octets : List ℕ
  pub are : hex_of digits ≡ Ok octets
  pub same : after ≡ before ++ octets
