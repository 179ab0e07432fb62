-- Text in quotes.
use Rattle.std.specs.Prelude.{◌≡◌, ℕ, ◌+◌, ◌-◌, ◌*◌, ◌<◌, ◌≤◌, false, List, [], ◌∷◌, ◌++◌, Option, Some, None}
use Rattle.std.specs.Char.{encode_utf8}
use Rattle.dns_tokens.specs.Octets.{is_special}

abbrev pub IsDigit : ℕ → Type 0
IsDigit c = (48 ≤ c) × (c ≤ 57)

-- the number of three decimal digits
abbrev pub of_digits : ℕ → ℕ → ℕ → ℕ
of_digits h t o = (h - 48) * 100 + (t - 48) * 10 + (o - 48)

-- After a `"`: the octets of the characters up to the next plain `"`, and what follows that. A `\` and three digits up
-- to 255 give the character of that number, a `\` and a character that is no digit gives that character; any other `\`
-- is an error.
pub data Quoted : List ℕ → List ℕ → List ℕ → Type 0 where
  closed : {quote : ℕ} {rest : List ℕ} → quote ≡ 34 → Quoted [] (quote ∷ rest) rest
  plain : {c : ℕ} {value text rest : List ℕ} → is_special c ≡ false → Quoted value text rest
      → Quoted (c ∷ value) (c ∷ text) rest
  decimal : {slash h t o : ℕ} {value text rest whole : List ℕ} → slash ≡ 92 → IsDigit h → IsDigit t → IsDigit o
      → of_digits h t o ≤ 255
      → Quoted value text rest → whole ≡ encode_utf8 (of_digits h t o) ++ value
      → Quoted whole (slash ∷ h ∷ t ∷ o ∷ text) rest
  escaped : {slash c : ℕ} {value text rest : List ℕ} → slash ≡ 92 → (48 ≤ c → 57 < c) → Quoted value text rest
      → Quoted (c ∷ value) (slash ∷ c ∷ text) rest

-- no quotes end here that a `"` before this text begins
abbrev pub NotQuoted : List ℕ → Type 0
NotQuoted text = (value rest : List ℕ) → Quoted value text rest → ⊥

-- What is read from the text begins with the front, and goes on as it does in more.
pub record First {V E : Type 0} (Reads : List V → List ℕ → E → Type 0) (front : List V)
    (text more : List ℕ) : Type 0 where
  pub gives : (later : List V) (end : E) → Reads later more end → Reads (front ++ later) text end
  pub only : (whole : List V) (end : E) → Reads whole text end → (later : List V) × (whole ≡ front ++ later)
      × Reads later more end

-- the octets of a character, where there is one
abbrev pub octets_of : Option ℕ → List ℕ
octets_of None = []
octets_of (Some c) = encode_utf8 c
