-- Plain texts: each word is a part of the text, and only blanks and line ends are between the words.
use Rattle.std.specs.Prelude.{◌≡◌, ◌≢◌, ℕ, not, List, [], ◌∷◌, Option, MatchOption}
use Rattle.std.specs.Borrow.{Bor}
use Rattle.dns_tokens.specs.declared.text.plain.PlainWords.{PlainWords}
use Rattle.dns_tokens.specs.{Octets.is_gap, Octets.is_special, Octets.AllOf, Octets.Span, Quoted.First, Tokens.Run}

-- A word at the text's beginning: a run other than a single `@`, or text in quotes without a `\`.
pub data IsPlainWord : List ℕ → List ℕ → List ℕ → Type 0 where
  run : {word text rest : List ℕ} → Run word text rest → word ≢ 64 ∷ [] → IsPlainWord word text rest
  quoted : {quote end : ℕ} {word text rest : List ℕ} → quote ≡ 34 → end ≡ 34
      → Span (λ c. not (is_special c)) word text (end ∷ rest) → IsPlainWord word (quote ∷ text) rest

abbrev pub NoPlainWord : List ℕ → Type 0
NoPlainWord text = (word rest : List ℕ) → IsPlainWord word text rest → ⊥

-- the words of a plain text
pub data ArePlain : List (List ℕ) → List ℕ → Type 0 where
  ended : {text : List ℕ} → AllOf is_gap text → ArePlain [] text
  one_more : {word gaps text more rest : List ℕ} {words : List (List ℕ)} → Span is_gap gaps text more
      → IsPlainWord word more rest → ArePlain words rest → ArePlain (word ∷ words) text

abbrev pub IsPlain : List ℕ → Type 0
IsPlain text = (words : List (List ℕ)) × ArePlain words text

-- the text is plain with these words and others exactly if more is plain with the others
abbrev pub PlainFirst : List (List ℕ) → List ℕ → List ℕ → Type 0
PlainFirst = First {E = Unit {0}} (λ words text _. ArePlain words text)

-- if the text is plain, it has no word
abbrev pub HasNoWord : List ℕ → Type 0
HasNoWord text = (words : List (List ℕ)) → ArePlain words text → words ≡ []

-- what a call of `next` does
abbrev pub GivesWord : PlainWords → Option (Bor (List ℕ)) → PlainWords → Type 0
GivesWord s r t =
    MatchOption r (HasNoWord s.rest.now) (λ word. PlainFirst (word.now ∷ []) s.rest.now t.rest.now)
