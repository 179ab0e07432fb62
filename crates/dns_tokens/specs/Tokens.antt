-- The tokens of a text (RFC 1035, 5.1). A text is its octets in UTF-8; every character that has a part here is ASCII.
use Rattle.std.specs.Prelude.{◌≡◌, ◌≢◌, ℕ, true, not, ◌==◌, ◌⊎◌, List, [], ◌∷◌}
use Rattle.dns_tokens.specs.{Octets.is_blank, Octets.is_line_end, Octets.is_gap, Octets.ends_run, Octets.BeginsOtherwise, Octets.Span, Quoted.Quoted}

-- a token, its words as octets
pub data TokenValue : Type 0 where
  blank : TokenValue
  line_end : TokenValue
  at : TokenValue
  list : List (List ℕ) → TokenValue
  char_data : List ℕ → TokenValue

-- A run at the text's beginning: it begins with no `"` and no `(`, and goes on to a blank, a line end, `)` or `;`.
pub record Run (word text rest : List ℕ) : Type 0 where
  pub first : ℕ
  pub others : List ℕ
  pub is_word : word ≡ first ∷ others
  pub no_quote : first ≢ 34
  pub no_list : first ≢ 40
  pub goes_on : Span (λ c. not (ends_run c)) word text rest

-- A line end at the text's beginning: LF, CR LF, or CR that no LF follows.
pub data LineEnd : List ℕ → List ℕ → Type 0 where
  line_feed : {lf : ℕ} {rest : List ℕ} → lf ≡ 10 → LineEnd (lf ∷ rest) rest
  both : {cr lf : ℕ} {rest : List ℕ} → cr ≡ 13 → lf ≡ 10 → LineEnd (cr ∷ lf ∷ rest) rest
  return : {cr : ℕ} {rest : List ℕ} → cr ≡ 13 → BeginsOtherwise (λ c. c == 10) rest → LineEnd (cr ∷ rest) rest

-- A comment at the text's beginning: `;` and all up to the line's end.
pub data Comment : List ℕ → List ℕ → Type 0 where
  comment : {semicolon : ℕ} {text rest : List ℕ} (remark : List ℕ) → semicolon ≡ 59
      → Span (λ c. not (is_line_end c)) remark text rest
      → Comment (semicolon ∷ text) rest

-- After a `(`: the words up to `)`, and what follows that. Blanks, line ends and comments are between them.
pub data Words : List (List ℕ) → List ℕ → List ℕ → Type 0 where
  closed : {paren : ℕ} {rest : List ℕ} → paren ≡ 41 → Words [] (paren ∷ rest) rest
  gap : {c : ℕ} {words : List (List ℕ)} {text rest : List ℕ} → is_gap c ≡ true → Words words text rest
      → Words words (c ∷ text) rest
  remark : {words : List (List ℕ)} {text more rest : List ℕ} → Comment text more → Words words more rest
      → Words words text rest
  quoted : {quote : ℕ} {word : List ℕ} {words : List (List ℕ)} {text more rest : List ℕ} → quote ≡ 34
      → Quoted word text more → Words words more rest
      → Words (word ∷ words) (quote ∷ text) rest
  run : {word : List ℕ} {words : List (List ℕ)} {text more rest : List ℕ} → Run word text more → Words words more rest
      → Words (word ∷ words) text rest

-- The text's first token, and what follows it.
pub data FirstToken : TokenValue → List ℕ → List ℕ → Type 0 where
  blanks : {text rest : List ℕ} (first : ℕ) (others : List ℕ) → Span is_blank (first ∷ others) text rest
      → FirstToken blank text rest
  line : {text rest : List ℕ} → LineEnd text rest → FirstToken line_end text rest
  remark : {token : TokenValue} {text more rest : List ℕ} → Comment text more → FirstToken token more rest
      → FirstToken token text rest
  at_sign : {text rest : List ℕ} → Run (64 ∷ []) text rest → FirstToken at text rest
  run : {word text rest : List ℕ} → Run word text rest → word ≢ 64 ∷ [] → FirstToken (char_data word) text rest
  quoted : {quote : ℕ} {word text rest : List ℕ} → quote ≡ 34 → Quoted word text rest
      → FirstToken (char_data word) (quote ∷ text) rest
  words : {paren : ℕ} {within : List (List ℕ)} {text rest : List ℕ} → paren ≡ 40 → Words within text rest
      → FirstToken (list within) (paren ∷ text) rest

-- No token is left: the text ends here, or after a comment.
pub data NoToken : List ℕ → Type 0 where
  ended : NoToken []
  remark : {text : List ℕ} → Comment text [] → NoToken text

-- The tokens of a whole text. A text without a list of tokens is rejected.
pub data Tokens : List TokenValue → List ℕ → Type 0 where
  none : {text : List ℕ} → NoToken text → Tokens [] text
  first : {token : TokenValue} {tokens : List TokenValue} {text rest : List ℕ} → FirstToken token text rest
      → Tokens tokens rest → Tokens (token ∷ tokens) text

abbrev pub NoWords : List ℕ → Type 0
NoWords text = (words : List (List ℕ)) (rest : List ℕ) → Words words text rest → ⊥

-- the text does not end here, and it has no first token: whatever follows, such a text has no list of tokens
pub record HasNoTokens (text : List ℕ) : Type 0 where
  pub goes_on : NoToken text → ⊥
  pub no_token : {token : TokenValue} {rest : List ℕ} → FirstToken token text rest → ⊥

-- more is the text after a comment, or the text if it begins with none
abbrev pub SkipsComment : List ℕ → List ℕ → Type 0
SkipsComment text more = Comment text more ⊎ ((more ≡ text) × BeginsOtherwise (λ c. c == 59) text)
