-- Where the tokens of a text are.
use Rattle.std.specs.Prelude.{ℕ, suc, ◌+◌, ◌-◌, ◌==◌, false, if◌then◌else◌, List, [], ◌∷◌, length, map}
use Rattle.dns_zone_tokens.specs.Tokens.{Spot, between, run, run_backslash, quotes, is_line_end, ends_run, on, Cursor}

-- A token, by how many octets of the text are left where it starts, its opening quote included, and how many are left
-- after it.
abbrev pub Left : Type 0
Left = ℕ × ℕ

-- the octet ends the token that the reader is in; so many octets follow it
abbrev pub ended : Spot → ℕ → ℕ → List Left → List Left
ended (run n joined front) c following others =
    if ends_run c then (length front + suc following, suc following) ∷ others else others
ended (run_backslash n joined front) c following others =
    if is_line_end c then (length front + suc following, suc following) ∷ others else others
ended (quotes n joined front) c following others =
    if c == 34 then (suc (length front + suc following), following) ∷ others else others
ended spot c following others = others

-- the text ends here
abbrev pub last_token : Spot → List Left
last_token (run n joined front) = (length front, 0) ∷ []
last_token (run_backslash n joined front) = (length front, 0) ∷ []
last_token spot = []

-- the tokens of a text from a spot on: all of them, or those before the octet at which the text is rejected
abbrev pub lefts_from : Spot → List ℕ → List Left
lefts_from spot [] = last_token spot
lefts_from spot (c ∷ text) = ended spot c (length text) (lefts_from (on spot c) text)

abbrev pub lefts_at : Cursor → List Left
lefts_at cursor = lefts_from (between cursor.depth cursor.joined) cursor.text

-- The offsets at which each token of a text starts and ends, its quotes included. If the text cannot be divided into
-- tokens, they are those before the octet at which it is rejected.
abbrev pub spans : List ℕ → List (ℕ × ℕ)
spans text = map (λ left. (length text - left.0, length text - left.1)) (lefts_from (between 0 false) text)
