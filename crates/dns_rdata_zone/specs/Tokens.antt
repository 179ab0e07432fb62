-- Long runs of digits in tokens that every reader accepts: some readers accept no token of 2,048 characters or more.
use Rattle.std.specs.Prelude.{ℕ, zero, suc, List, [], ◌∷◌}

-- characters, of which the current token takes so many; after a blank follow tokens of at most 1,020
abbrev pub tokens_from : ℕ → List ℕ → List ℕ
tokens_from left [] = []
tokens_from zero (c ∷ s) = 32 ∷ c ∷ tokens_from 1019 s
tokens_from (suc left) (c ∷ s) = c ∷ tokens_from left s

-- Tokens of at most 1,020 characters, with a blank between two. So many hexadecimal digits are 510 octets, and so many
-- characters of base64 are 255 groups of four.
abbrev pub in_tokens : List ℕ → List ℕ
in_tokens s = tokens_from 1020 s

-- how many more characters the token takes after so many
abbrev pub left_after : ℕ → ℕ → ℕ
left_after left zero = left
left_after zero (suc n) = left_after 1019 n
left_after (suc left) (suc n) = left_after left n
