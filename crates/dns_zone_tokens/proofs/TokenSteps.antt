-- Tokens of a text, octet by octet.
use Rattle.std.proofs.Common.{◌≡◌, ℕ, zero, suc, ◌+◌, ◌-◌, ◌<◌, ◌≤◌, Bool, true, false, ◌||◌, eqb, if◌then◌else◌, List, [], ◌∷◌, ◌++◌, length, take, drop, get_or, refl}
use Rattle.std.proofs.Common.{sym, subst, ◌∙◌, ap, add-one, arith, Err, ◌⊎◌, inl, inr}
use Rattle.std.proofs.{Math.Seq.take-suc, Math.Seq.drop-cons, Math.Seq.drop-nil, lemmas.Bool.Decides.nat_tests, lemmas.List.get_or-drop, lemmas.List.length-drop, lemmas.List.length-take-le}
use Rattle.dns_zone_tokens.specs.Tokens.{Spot, is_blank, is_line_end, begins_gap, ends_run, gap_on, run_on, on, between, run, run_backslash, quotes}
use Rattle.dns_tokens.specs.Quiet.{IsQuiet}
use Rattle.dns_tokens.proofs.QuietSteps.{AreQuiet}
use Rattle.dns_zone_tokens.specs.{Spans.lefts_from, TokenSteps.NoGap, TokenSteps.RunTaken, TokenSteps.QuotesRefused, declared.tokens_error.TokensError.TokensError}
use Rattle.dns_zone_tokens.specs.Tokens.{quotes_backslash, with_token, over, over_comment, refused, tokens_read_from, seen_from}
use Rattle.dns_zone_tokens.specs.declared.tokens_error.TokensError.TheVariants.{NoParenthesis, LineInQuotes, FurtherLine}
use Rattle.dns_zone_tokens.proofs.LetterSteps.{from_offset}

-- a rejected text stays rejected
pub stays_refused : (e : TokensError) (text : List ℕ) → tokens_read_from (refused e) text ≡ Err e
stays_refused e [] = refl
stays_refused e (c ∷ text) = stays_refused e text

-- and it has no more tokens
pub refused_left : (e : TokensError) (text : List ℕ) → lefts_from (refused e) text ≡ []
refused_left e [] = refl
refused_left e (c ∷ text) = refused_left e text

pub refused_seen : (e : TokensError) (text : List ℕ) → seen_from (refused e) text ≡ []
refused_seen e [] = refl
refused_seen e (c ∷ text) = refused_seen e text

-- after the line, and in a comment there, no token is seen
abbrev NoneSeen : List ℕ → Type 0
NoneSeen text = (seen_from over text ≡ []) × (seen_from over_comment text ≡ [])

seen_behind : (gap comments : Bool) (text : List ℕ) → NoneSeen text
    → seen_from (if gap then over else if comments then over_comment else refused FurtherLine) text ≡ []
seen_behind true comments text later = later.0
seen_behind false true text later = later.1
seen_behind false false text later = refused_seen FurtherLine text

seen_comment : (ends : Bool) (text : List ℕ) → NoneSeen text → seen_from (if ends then over else over_comment) text ≡ []
seen_comment true text later = later.0
seen_comment false text later = later.1

none_seen : (text : List ℕ) → NoneSeen text
none_seen [] = (refl, refl)
none_seen (c ∷ text) = (
  seen_behind (is_blank c || is_line_end c) (eqb c 59) text (none_seen text),
  seen_comment (is_line_end c) text (none_seen text),
)

pub over_seen : (text : List ℕ) → seen_from over text ≡ []
over_seen text = (none_seen text).0

-- after the line, and in a comment there, no token is left
abbrev NoneOver : List ℕ → Type 0
NoneOver text = (lefts_from over text ≡ []) × (lefts_from over_comment text ≡ [])

behind_over : (gap comments : Bool) (text : List ℕ) → NoneOver text
    → lefts_from (if gap then over else if comments then over_comment else refused FurtherLine) text ≡ []
behind_over true comments text later = later.0
behind_over false true text later = later.1
behind_over false false text later = refused_left FurtherLine text

in_comment : (ends : Bool) (text : List ℕ) → NoneOver text → lefts_from (if ends then over else over_comment) text ≡ []
in_comment true text later = later.0
in_comment false text later = later.1

none_over : (text : List ℕ) → NoneOver text
none_over [] = (refl, refl)
none_over (c ∷ text) = (
  behind_over (is_blank c || is_line_end c) (eqb c 59) text (none_over text),
  in_comment (is_line_end c) text (none_over text),
)

pub over_left : (text : List ℕ) → lefts_from over text ≡ []
over_left text = (none_over text).0

-- ---- a reader that keeps the octets that it passed

module _ {A : Type 0} (go : List ℕ → List ℕ → A) (text : List ℕ) where
  -- after the first n octets it goes on with these
  abbrev pub PassedTo : ℕ → Type 0
  PassedTo n = go [] text ≡ go (take n text) (drop n text)

  abbrev octet : ℕ → ℕ
  octet n = get_or text n 0

  next_drop : (n : ℕ) → n < length text → drop n text ≡ octet n ∷ drop (n + 1) text
  next_drop n h = rw add-one (drop-cons text n 0 h)

  next_take : (n : ℕ) → n < length text → take (n + 1) text ≡ take n text ++ octet n ∷ []
  next_take n h = rw add-one (take-suc text n 0 h)

  pub one_passed : (n : ℕ) → PassedTo n → n < length text
      → go (take n text) (octet n ∷ drop (n + 1) text) ≡ go (take n text ++ octet n ∷ []) (drop (n + 1) text) → PassedTo (n + 1)
  one_passed n so h step =
      so ∙ ap (go (take n text)) (next_drop n h) ∙ step ∙ ap (λ (x : List ℕ). go x (drop (n + 1) text)) (sym (next_take n h))

  pub two_passed : (n : ℕ) → PassedTo n → n + 1 < length text
      → go (take n text) (octet n ∷ octet (n + 1) ∷ drop (n + 1 + 1) text) ≡ go ((take n text ++ octet n ∷ []) ++ octet (n + 1) ∷ []) (drop (n + 1 + 1) text)
      → PassedTo (n + 2)
  two_passed n so h step =
      let two : n + 1 + 1 ≡ n + 2 = omega arith in
      let front : take (n + 1 + 1) text ≡ (take n text ++ octet n ∷ []) ++ octet (n + 1) ∷ [] =
      next_take (n + 1) h ∙ ap (λ (x : List ℕ). x ++ octet (n + 1) ∷ []) (next_take n (omega arith)) in
      rw (← two) (
      so
      ∙ ap (go (take n text)) (next_drop n (omega arith) ∙ ap (λ (x : List ℕ). octet n ∷ x) (next_drop (n + 1) h))
      ∙ step
      ∙ ap (λ (x : List ℕ). go x (drop (n + 1 + 1) text)) (sym front)
      )

  -- m octets more, at none of which it stops
  pub quiet_passed : (most b c n m at : ℕ) → ((front : List ℕ) (d : ℕ) (rest : List ℕ) → IsQuiet most b c d → go front (d ∷ rest) ≡ go (front ++ d ∷ []) rest)
      → PassedTo n → m ≤ length text - n → AreQuiet most b c (drop n text) m → at ≡ n + m → PassedTo at
  quiet_passed most b c n zero at step so within quiet e = let same : at ≡ n = omega arith in rw same so
  quiet_passed most b c n (suc m) at step so within quiet e =
      let next : at ≡ n + m + 1 = omega arith in
      rw next (one_passed (n + m) (quiet_passed most b c n m (n + m) step so (omega arith) (λ k lt. quiet k (omega arith)) refl) (omega arith)
      (step (take (n + m) text) (octet (n + m)) (drop (n + m + 1) text) (subst (IsQuiet most b c) (get_or-drop n text m 0) (quiet m (omega arith)))))

-- ---- readers that go from spot to spot

-- the octet ends the token that the reader is in
abbrev stops : Spot → ℕ → Bool
stops (run depth joined front) c = ends_run c
stops (run_backslash depth joined front) c = is_line_end c
stops (quotes depth joined front) c = eqb c 34
stops spot c = false

-- after an octet that ends no token it reads on from the next spot
pub record Walks {A : Type 0} (go : Spot → List ℕ → A) : Type 0 where
  pub goes : (spot : Spot) (c : ℕ) (text : List ℕ) → stops spot c ≡ false → go spot (c ∷ text) ≡ go (on spot c) text

tokens_go : (spot : Spot) (c : ℕ) (text : List ℕ) → stops spot c ≡ false → tokens_read_from spot (c ∷ text) ≡ tokens_read_from (on spot c) text
tokens_go (run depth joined front) c text h = rw h refl
tokens_go (run_backslash depth joined front) c text h = rw h refl
tokens_go (quotes depth joined front) c text h = rw h refl
tokens_go spot c text h = refl

lefts_go : (spot : Spot) (c : ℕ) (text : List ℕ) → stops spot c ≡ false → lefts_from spot (c ∷ text) ≡ lefts_from (on spot c) text
lefts_go (run depth joined front) c text h = rw h refl
lefts_go (run_backslash depth joined front) c text h = rw h refl
lefts_go (quotes depth joined front) c text h = rw h refl
lefts_go spot c text h = refl

seen_go : (spot : Spot) (c : ℕ) (text : List ℕ) → stops spot c ≡ false → seen_from spot (c ∷ text) ≡ seen_from (on spot c) text
seen_go (run depth joined front) c text h = rw h refl
seen_go (run_backslash depth joined front) c text h = rw h refl
seen_go (quotes depth joined front) c text h = rw h refl
seen_go spot c text h = refl

pub seen_walk : Walks seen_from
seen_walk = record { goes = seen_go }

pub tokens_walk : Walks tokens_read_from
tokens_walk = record { goes = tokens_go }

pub lefts_walk : Walks lefts_from
lefts_walk = record { goes = lefts_go }

module _ {A : Type 0} {go : Spot → List ℕ → A} (walks : Walks go) where
  -- octets at which no reader stops, and that neither end the quotes nor begin with a `\`
  quotes_one : (depth : ℕ) (joined : Bool) (front : List ℕ) (c : ℕ) (text : List ℕ) → IsQuiet 10 34 92 c
      → go (quotes depth joined front) (c ∷ text) ≡ go (quotes depth joined (front ++ c ∷ [])) text
  quotes_one depth joined front c text quiet =
      let h : eqb c 34 ≡ false = grind (arith, nat_tests) in
      let k : eqb c 10 ≡ false = grind (arith, nat_tests) in
      let e : eqb c 92 ≡ false = grind (arith, nat_tests) in
      let next : on (quotes depth joined front) c ≡ quotes depth joined (front ++ c ∷ []) = rw (h, k, e) refl in
      walks.goes (quotes depth joined front) c text h ∙ ap (λ (spot : Spot). go spot text) next

  pair : (depth : ℕ) (joined : Bool) (front : List ℕ) (c d : ℕ) (text : List ℕ) → eqb c 34 ≡ false → eqb c 10 ≡ false → eqb c 92 ≡ true
      → go (quotes depth joined front) (c ∷ d ∷ text) ≡ go (quotes depth joined ((front ++ c ∷ []) ++ d ∷ [])) text
  pair depth joined front c d text h k e =
      let next : on (quotes depth joined front) c ≡ quotes_backslash depth joined (front ++ c ∷ []) = rw (h, k, e) refl in
      walks.goes (quotes depth joined front) c (d ∷ text) h ∙ ap (λ (spot : Spot). go spot (d ∷ text)) next
      ∙ walks.goes (quotes_backslash depth joined (front ++ c ∷ [])) d text refl

  run_one : (depth : ℕ) (joined : Bool) (front : List ℕ) (c : ℕ) (text : List ℕ) → IsQuiet 41 59 92 c
      → go (run depth joined front) (c ∷ text) ≡ go (run depth joined (front ++ c ∷ [])) text
  run_one depth joined front c text quiet =
      let h : ends_run c ≡ false = grind (arith, nat_tests) in
      let e : eqb c 92 ≡ false = grind (arith, nat_tests) in
      let next : on (run depth joined front) c ≡ run depth joined (front ++ c ∷ []) = rw (h, e) refl in
      walks.goes (run depth joined front) c text h ∙ ap (λ (spot : Spot). go spot text) next

  -- the first n octets are in the quotes, and more may be
  abbrev pub QuotesOn : List ℕ → ℕ → Type 0
  QuotesOn text n = (depth : ℕ) (joined : Bool) → PassedTo (λ (front : List ℕ). go (quotes depth joined front)) text n

  pub quotes_quiet : (text : List ℕ) (n : ℕ) → n ≤ length text → AreQuiet 10 34 92 text n → QuotesOn text n
  quotes_quiet text n within quiet depth joined =
      quiet_passed (λ (front : List ℕ). go (quotes depth joined front)) text 10 34 92 0 n n (quotes_one depth joined) refl (omega arith) quiet (omega arith)

  -- so are a `\`, the octet after it, and quiet octets after that
  pub quotes_escape : (text : List ℕ) (n m : ℕ) → QuotesOn text n → n + 1 < length text → eqb (get_or text n 0) 34 ≡ false → eqb (get_or text n 0) 10 ≡ false
      → eqb (get_or text n 0) 92 ≡ true → m ≤ length text - (n + 2) → AreQuiet 10 34 92 (take (length text - (n + 2)) (drop (n + 2) text)) m
      → QuotesOn text (n + 2 + m)
  quotes_escape text n m so lt h k e within quiet depth joined =
      let quoted : List ℕ → List ℕ → A = λ front. go (quotes depth joined front) in
      quiet_passed quoted text 10 34 92 (n + 2) m (n + 2 + m) (quotes_one depth joined)
      (two_passed quoted text n (so depth joined) lt (pair depth joined (take n text) _ _ _ h k e)) within
      (subst (λ (s : List ℕ). AreQuiet 10 34 92 s m) (from_offset (n + 2) text) quiet) refl

  -- a line end in the quotes
  quotes_end : (text : List ℕ) (n : ℕ) → QuotesOn text n → n < length text → eqb (get_or text n 0) 34 ≡ false → eqb (get_or text n 0) 10 ≡ true
      → (depth : ℕ) (joined : Bool) → go (quotes depth joined []) text ≡ go (refused LineInQuotes) (drop (n + 1) text)
  quotes_end text n so lt h k depth joined =
      let next : on (quotes depth joined (take n text)) (get_or text n 0) ≡ refused LineInQuotes = rw (h, k) refl in
      so depth joined
      ∙ ap (go (quotes depth joined (take n text))) (next_drop (λ (front : List ℕ). go (quotes depth joined front)) text n lt)
      ∙ walks.goes (quotes depth joined (take n text)) (get_or text n 0) (drop (n + 1) text) h
      ∙ ap (λ (spot : Spot). go spot (drop (n + 1) text)) next

  -- a token without quotes
  pub run_quiet : (text : List ℕ) (n : ℕ) → n ≤ length text → AreQuiet 41 59 92 text n
      → (depth : ℕ) (joined : Bool) → go (run depth joined []) text ≡ go (run depth joined (take n text)) (drop n text)
  run_quiet text n within quiet depth joined =
      quiet_passed (λ (front : List ℕ). go (run depth joined front)) text 41 59 92 0 n n (run_one depth joined) refl (omega arith) quiet (omega arith)

  -- between tokens, `)` without `(`
  pub closes_nothing : (depth : ℕ) (joined : Bool) (text : List ℕ) → depth ≡ 0 → 0 < length text → get_or text 0 0 ≡ 41
      → go (between depth joined) text ≡ go (refused NoParenthesis) (drop 1 text)
  closes_nothing depth joined [] none some h = absurd (omega arith)
  closes_nothing depth joined (c ∷ text) none some h =
      let next : on (between depth joined) c ≡ refused NoParenthesis = rw (none, h) refl in
      walks.goes (between depth joined) c text refl ∙ ap (λ (spot : Spot). go spot text) next

-- ---- the end of a token without quotes

-- the text ends, or begins with an octet that ends such a token
abbrev EndsRun : List ℕ → Type 0
EndsRun [] = Unit {0}
EndsRun (c ∷ rest) = ends_run c ≡ true

ends_there : (text : List ℕ) (n : ℕ) → n ≤ length text → (n ≡ length text) ⊎ (ends_run (get_or text n 0) ≡ true) → EndsRun (drop n text)
ends_there [] n within h = rw (drop-nil n) tt
ends_there (c ∷ text) zero within (inl e) = absurd (omega arith)
ends_there (c ∷ text) zero within (inr e) = e
ends_there (c ∷ text) (suc n) within (inl e) = ends_there text n (omega arith) (inl (omega arith))
ends_there (c ∷ text) (suc n) within (inr e) = ends_there text n (omega arith) (inr e)

token_ends : (depth : ℕ) (joined : Bool) (front rest : List ℕ) → EndsRun rest → tokens_read_from (run depth joined front) rest
    ≡ with_token (record { octets = front; quoted = false; joined = joined }) (tokens_read_from (between depth true) rest)
token_ends zero joined front [] h = refl
token_ends (suc depth) joined front [] h = refl
token_ends depth joined front (c ∷ rest) h = rw h refl

seen_ends : (depth : ℕ) (joined : Bool) (front rest : List ℕ) → EndsRun rest → seen_from (run depth joined front) rest
    ≡ record { octets = front; quoted = false; joined = joined } ∷ seen_from (between depth true) rest
seen_ends depth joined front [] h = refl
seen_ends depth joined front (c ∷ rest) h = rw h refl

left_ends : (depth : ℕ) (joined : Bool) (front rest : List ℕ) → EndsRun rest → lefts_from (run depth joined front) rest
    ≡ (length front + length rest, length rest) ∷ lefts_from (between depth true) rest
left_ends depth joined front [] h = ap (λ (n : ℕ). (n, 0) ∷ []) (omega arith)
left_ends depth joined front (c ∷ rest) h = rw h refl

-- quiet octets and such an end are a token
pub run_taken : (text : List ℕ) (n : ℕ) → n ≤ length text → AreQuiet 41 59 92 text n → (n ≡ length text) ⊎ (ends_run (get_or text n 0) ≡ true)
    → RunTaken text n
run_taken text n within quiet h =
    let ends = ends_there text n within h in
    record {
      token = λ depth joined. run_quiet tokens_walk text n within quiet depth joined ∙ token_ends depth joined (take n text) (drop n text) ends;
      seen = λ depth joined. run_quiet seen_walk text n within quiet depth joined ∙ seen_ends depth joined (take n text) (drop n text) ends;
      left = λ depth joined.
          let whole : length (take n text) + length (drop n text) ≡ length text = omega (arith, length-take-le n text within, length-drop n text) in
          run_quiet lefts_walk text n within quiet depth joined ∙ left_ends depth joined (take n text) (drop n text) ends
          ∙ ap (λ (m : ℕ). (m, length (drop n text)) ∷ lefts_from (between depth true) (drop n text)) whole;
    }

pub quotes_line : (text : List ℕ) (n : ℕ) → QuotesOn tokens_walk text n → QuotesOn seen_walk text n → QuotesOn lefts_walk text n → n < length text → eqb (get_or text n 0) 34 ≡ false
    → eqb (get_or text n 0) 10 ≡ true → QuotesRefused text LineInQuotes
quotes_line text n so seen left lt h k = record {
  why = λ depth joined. quotes_end tokens_walk text n so lt h k depth joined ∙ stays_refused LineInQuotes (drop (n + 1) text);
  seen = λ depth joined. quotes_end seen_walk text n seen lt h k depth joined ∙ refused_seen LineInQuotes (drop (n + 1) text);
  left = λ depth joined. quotes_end lefts_walk text n left lt h k depth joined ∙ refused_left LineInQuotes (drop (n + 1) text);
}

-- ---- after the line

pub further : (text : List ℕ) → 0 < length text → is_blank (get_or text 0 0) ≡ false → is_line_end (get_or text 0 0) ≡ false → eqb (get_or text 0 0) 59 ≡ false
    → tokens_read_from over text ≡ Err FurtherLine
further [] some h k e = absurd (omega arith)
further (c ∷ text) some h k e = rw (h, k, e) (stays_refused FurtherLine text)

-- ---- between tokens

-- a token without quotes begins
run_begins : (depth : ℕ) (joined : Bool) (c : ℕ) → begins_gap c ≡ false → eqb c 34 ≡ false → gap_on depth joined c ≡ run_on depth joined [] c
run_begins depth joined c gap quote =
    let a : is_blank c ≡ false = grind (arith, nat_tests) in
    let b : is_line_end c ≡ false = grind (arith, nat_tests) in
    let d : eqb c 40 ≡ false = grind (arith, nat_tests) in
    let e : eqb c 41 ≡ false = grind (arith, nat_tests) in
    let f : eqb c 59 ≡ false = grind (arith, nat_tests) in
    rw (a, b, d, e, f, quote) refl

run_goes_on : (depth : ℕ) (joined : Bool) (c : ℕ) (text : List ℕ) → ends_run c ≡ false
    → lefts_from (run depth joined []) (c ∷ text) ≡ lefts_from (run_on depth joined [] c) text
run_goes_on depth joined c text h = rw h refl

pub run_begins_left : (depth : ℕ) (joined : Bool) (text : List ℕ) → 0 < length text → NoGap text → eqb (get_or text 0 0) 34 ≡ false
    → lefts_from (between depth joined) text ≡ lefts_from (run depth joined []) text
run_begins_left depth joined [] some gap quote = absurd (omega arith)
run_begins_left depth joined (c ∷ text) some gap quote =
    let h : ends_run c ≡ false = rw (gap, quote) refl in
    ap (λ (spot : Spot). lefts_from spot text) (run_begins depth joined c gap quote) ∙ sym (run_goes_on depth joined c text h)

run_goes_seen : (depth : ℕ) (joined : Bool) (c : ℕ) (text : List ℕ) → ends_run c ≡ false
    → seen_from (run depth joined []) (c ∷ text) ≡ seen_from (run_on depth joined [] c) text
run_goes_seen depth joined c text h = rw h refl

pub run_begins_seen : (depth : ℕ) (joined : Bool) (text : List ℕ) → 0 < length text → NoGap text → eqb (get_or text 0 0) 34 ≡ false
    → seen_from (between depth joined) text ≡ seen_from (run depth joined []) text
run_begins_seen depth joined [] some gap quote = absurd (omega arith)
run_begins_seen depth joined (c ∷ text) some gap quote =
    let h : ends_run c ≡ false = rw (gap, quote) refl in
    ap (λ (spot : Spot). seen_from spot text) (run_begins depth joined c gap quote) ∙ sym (run_goes_seen depth joined c text h)

pub no_gap : (text : List ℕ) → begins_gap (get_or text 0 0) ≡ false → NoGap text
no_gap [] h = tt
no_gap (c ∷ text) h = h
