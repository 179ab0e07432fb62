-- The tokens of a text of a zone file (RFC 1035, 5.1).
use Rattle.std.specs.Prelude.{ℕ, zero, suc, Bool, true, false, ◌==◌, ◌||◌, if◌then◌else◌, List, [], ◌∷◌, ◌++◌, Result, Ok, Err}
pub use Rattle.dns_tokens.specs.Octets.{is_blank, is_line_end}
use Rattle.dns_zone_tokens.specs.declared.tokens_error.TokensError.{TokensError}
use Rattle.dns_zone_tokens.specs.declared.tokens_error.TokensError.TheVariants.{OpenParenthesis, NoParenthesis, OpenQuotes, LineInQuotes, FurtherLine}

-- A token: its octets as they are in the text, without the quotes around them; whether it is in quotes; and whether it
-- directly follows another token.
pub record Token : Type 0 where
  pub octets : List ℕ
  pub quoted : Bool
  pub joined : Bool

-- a blank, a line end, `(`, `)` or `;`
abbrev pub begins_gap : ℕ → Bool
begins_gap c = is_blank c || is_line_end c || c == 40 || c == 41 || c == 59

-- one of these, or `"`
abbrev pub ends_run : ℕ → Bool
ends_run c = begins_gap c || c == 34

-- Where a reader of tokens is, with so many parentheses open: between tokens, directly after one or not; in a comment;
-- in a token without quotes or within quotes, after these octets of it, and there perhaps after a `\`; after the end of
-- the line, or in a comment there; or where the text is rejected.
pub data Spot : Type 0 where
  between : ℕ → Bool → Spot
  comment : ℕ → Spot
  run : ℕ → Bool → List ℕ → Spot
  run_backslash : ℕ → Bool → List ℕ → Spot
  quotes : ℕ → Bool → List ℕ → Spot
  quotes_backslash : ℕ → Bool → List ℕ → Spot
  over : Spot
  over_comment : Spot
  refused : TokensError → Spot

-- a line goes on within parentheses
abbrev pub behind_line : ℕ → Spot
behind_line zero = over
behind_line (suc open_ones) = between (suc open_ones) false

abbrev pub behind_closing : ℕ → Spot
behind_closing zero = refused NoParenthesis
behind_closing (suc open_ones) = between open_ones false

-- after one more octet of a token without quotes
abbrev pub run_on : ℕ → Bool → List ℕ → ℕ → Spot
run_on n joined front c = if c == 92 then run_backslash n joined (front ++ c ∷ []) else run n joined (front ++ c ∷ [])

-- after an octet between two tokens
abbrev pub gap_on : ℕ → Bool → ℕ → Spot
gap_on n joined c =
    if is_blank c then between n false
    else if is_line_end c then behind_line n
    else if c == 59 then comment n
    else if c == 40 then between (suc n) false
    else if c == 41 then behind_closing n
    else if c == 34 then quotes n joined []
    else run_on n joined [] c

-- after an octet
abbrev pub on : Spot → ℕ → Spot
on (between n joined) c = gap_on n joined c
on (comment n) c = if is_line_end c then behind_line n else comment n
on (run n joined front) c = if ends_run c then gap_on n true c else run_on n joined front c
on (run_backslash n joined front) c = if is_line_end c then behind_line n else run n joined (front ++ c ∷ [])
on (quotes n joined front) c =
    if c == 34 then between n true
    else if c == 10 then refused LineInQuotes
    else if c == 92 then quotes_backslash n joined (front ++ c ∷ [])
    else quotes n joined (front ++ c ∷ [])
on (quotes_backslash n joined front) c = quotes n joined (front ++ c ∷ [])
on over c = if is_blank c || is_line_end c then over else if c == 59 then over_comment else refused FurtherLine
on over_comment c = if is_line_end c then over else over_comment
on (refused e) c = refused e

-- a token, and those after it
abbrev pub with_token : Token → Result (List Token) TokensError → Result (List Token) TokensError
with_token token (Ok tokens) = Ok (token ∷ tokens)
with_token token (Err e) = Err e

-- the octet ends the token that the reader is in
abbrev pub ending : Spot → ℕ → Result (List Token) TokensError → Result (List Token) TokensError
ending (run n joined front) c tokens =
    if ends_run c then with_token (record { octets = front; quoted = false; joined = joined }) tokens else tokens
ending (run_backslash n joined front) c tokens =
    if is_line_end c then with_token (record { octets = front; quoted = false; joined = joined }) tokens else tokens
ending (quotes n joined front) c tokens =
    if c == 34 then with_token (record { octets = front; quoted = true; joined = joined }) tokens else tokens
ending spot c tokens = tokens

-- the text ends here
abbrev pub at_end : Spot → Result (List Token) TokensError
at_end over = Ok []
at_end over_comment = Ok []
at_end (refused e) = Err e
at_end (quotes n joined front) = Err OpenQuotes
at_end (quotes_backslash n joined front) = Err OpenQuotes
at_end (between zero joined) = Ok []
at_end (comment zero) = Ok []
at_end (run zero joined front) = Ok (record { octets = front; quoted = false; joined = joined } ∷ [])
at_end (run_backslash zero joined front) = Ok (record { octets = front; quoted = false; joined = joined } ∷ [])
at_end spot = Err OpenParenthesis

-- the tokens of a text from a spot on, or why it is rejected
abbrev pub tokens_read_from : Spot → List ℕ → Result (List Token) TokensError
tokens_read_from spot [] = at_end spot
tokens_read_from spot (c ∷ text) = ending spot c (tokens_read_from (on spot c) text)

-- a text that is read from a spot between two tokens on
pub record Cursor : Type 0 where
  pub depth : ℕ
  pub joined : Bool
  pub text : List ℕ

abbrev pub tokens_at : Cursor → Result (List Token) TokensError
tokens_at cursor = tokens_read_from (between cursor.depth cursor.joined) cursor.text

-- ---- the tokens before the octet at which a text is rejected

-- the octet ends the token that the reader is in
abbrev pub seen_ending : Spot → ℕ → List Token → List Token
seen_ending (run n joined front) c tokens =
    if ends_run c then record { octets = front; quoted = false; joined = joined } ∷ tokens else tokens
seen_ending (run_backslash n joined front) c tokens =
    if is_line_end c then record { octets = front; quoted = false; joined = joined } ∷ tokens else tokens
seen_ending (quotes n joined front) c tokens =
    if c == 34 then record { octets = front; quoted = true; joined = joined } ∷ tokens else tokens
seen_ending spot c tokens = tokens

-- the text ends here
abbrev pub seen_at_end : Spot → List Token
seen_at_end (run n joined front) = record { octets = front; quoted = false; joined = joined } ∷ []
seen_at_end (run_backslash n joined front) = record { octets = front; quoted = false; joined = joined } ∷ []
seen_at_end spot = []

-- the tokens of a text from a spot on: all of them, or those before the octet at which the text is rejected
abbrev pub seen_from : Spot → List ℕ → List Token
seen_from spot [] = seen_at_end spot
seen_from spot (c ∷ text) = seen_ending spot c (seen_from (on spot c) text)

abbrev pub seen_at : Cursor → List Token
seen_at cursor = seen_from (between cursor.depth cursor.joined) cursor.text

-- the tokens of a text
abbrev pub zone_tokens : List ℕ → Result (List Token) TokensError
zone_tokens text = tokens_read_from (between zero false) text

-- the tokens after the first, if there is one
abbrev pub behind_first : Result (List Token) TokensError → Result (List Token) TokensError
behind_first (Ok []) = Ok []
behind_first (Ok (token ∷ tokens)) = Ok tokens
behind_first (Err e) = Err e
