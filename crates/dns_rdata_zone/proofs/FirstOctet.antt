-- The first token of a text, by the octet that it begins with.
use Rattle.std.proofs.Common.{◌≡◌, ◌≢◌, ℕ, zero, suc, ◌<◌, Bool, true, false, List, [], ◌∷◌, ◌++◌, length, get_or, Result, Ok, Err, refl, sym, ◌∙◌, subst}
use Rattle.std.proofs.{lemmas.List.append-nil, lemmas.Bool.Decides.nat_tests, Common.arith, Common.append_assoc, Common.◌⊎◌, Common.inl, Common.inr}
use Rattle.std.specs.Prelude.{◌==◌}
use Rattle.dns_zone_tokens.specs.{declared.tokens_error.TokensError.TokensError, declared.tokens_error.TokensError.TheVariants.LineInQuotes}
use Rattle.dns_zone_tokens.specs.Tokens.{Token, Spot, run, run_backslash, quotes, quotes_backslash, refused, is_line_end, ends_run, gap_on, tokens_read_from, seen_from, with_token}
use Rattle.dns_zone_tokens.proofs.{RemainingSteps.token_ok, TokenSteps.stays_refused, TokenSteps.refused_seen}
use Rattle.dns_rdata_zone.specs.{ZoneGives.AreUnmarked, ZoneFaults.HasNoMark}

either_way : (b : Bool) → (b ≡ true) ⊎ (b ≡ false)
either_way true = inl refl
either_way false = inr refl

-- ---- within a token

-- after these octets of a token, in quotes or not, and there after a `\` or not
abbrev in_token : Bool → Bool → ℕ → Bool → List ℕ → Spot
in_token false false n joined front = run n joined front
in_token false true n joined front = run_backslash n joined front
in_token true false n joined front = quotes n joined front
in_token true true n joined front = quotes_backslash n joined front

-- the first token, in quotes or not, begins with these octets
record BeginsSoFar (quoted : Bool) (front : List ℕ) (tokens : List Token) : Type 0 where
  pub first : Token
  pub others : List Token
  pub more : List ℕ
  pub are : tokens ≡ first ∷ others
  pub same : first.octets ≡ front ++ more
  pub quotes : first.quoted ≡ quoted

token_ends : (token : Token) (behind : Result (List Token) TokensError) (tokens : List Token) → with_token token behind ≡ Ok tokens
    → BeginsSoFar token.quoted token.octets tokens
token_ends token behind tokens e =
    let k = token_ok token behind tokens e in
    record { first = token; others = k.0; more = []; are = k.2; same = sym (append-nil token.octets); quotes = refl }

longer : (quoted : Bool) (front : List ℕ) (c : ℕ) (tokens : List Token) → BeginsSoFar quoted (front ++ c ∷ []) tokens → BeginsSoFar quoted front tokens
longer quoted front c tokens so = record {
  first = so.first;
  others = so.others;
  more = c ∷ so.more;
  are = so.are;
  same = so.same ∙ append_assoc front (c ∷ []) so.more;
  quotes = so.quotes;
}

line_refused : (text : List ℕ) (tokens : List Token) → tokens_read_from (refused LineInQuotes) text ≡ Ok tokens → ⊥
line_refused text tokens e = let both : Err LineInQuotes ≡ Ok tokens = sym (stays_refused LineInQuotes text) ∙ e in absurd (cc)

begins : (quoted slash : Bool) (n : ℕ) (joined : Bool) (front text : List ℕ) (tokens : List Token)
    → tokens_read_from (in_token quoted slash n joined front) text ≡ Ok tokens → BeginsSoFar quoted front tokens
begins false true zero joined front [] tokens e = token_ends (record { octets = front; quoted = false; joined = joined }) (Ok []) tokens e
begins false false zero joined front [] tokens e = token_ends (record { octets = front; quoted = false; joined = joined }) (Ok []) tokens e
begins false true (suc n) joined front [] tokens e = absurd (cc)
begins false false (suc n) joined front [] tokens e = absurd (cc)
begins true true n joined front [] tokens e = absurd (cc)
begins true false n joined front [] tokens e = absurd (cc)
begins false true n joined front (c ∷ text) tokens e = elim (either_way (is_line_end c)) [
  | inl h ↦ token_ends (record { octets = front; quoted = false; joined = joined }) _ tokens (rw h at e)
  | inr h ↦ longer false front c tokens (begins false false n joined (front ++ c ∷ []) text tokens (rw h at e))
]
begins false false n joined front (c ∷ text) tokens e = elim (either_way (ends_run c)) [
  | inl h ↦ token_ends (record { octets = front; quoted = false; joined = joined }) _ tokens (rw h at e)
  | inr h ↦ elim (either_way (c == 92)) [
    | inl k ↦ longer false front c tokens (begins false true n joined (front ++ c ∷ []) text tokens (rw (h, k) at e))
    | inr k ↦ longer false front c tokens (begins false false n joined (front ++ c ∷ []) text tokens (rw (h, k) at e))
  ]
]
begins true true n joined front (c ∷ text) tokens e = longer true front c tokens (begins true false n joined (front ++ c ∷ []) text tokens e)
begins true false n joined front (c ∷ text) tokens e = elim (either_way (c == 34)) [
  | inl h ↦ token_ends (record { octets = front; quoted = true; joined = joined }) _ tokens (rw h at e)
  | inr h ↦ elim (either_way (c == 10)) [
    | inl k ↦ absurd (line_refused text tokens (rw (h, k) at e))
    | inr k ↦ elim (either_way (c == 92)) [
      | inl m ↦ longer true front c tokens (begins true true n joined (front ++ c ∷ []) text tokens (rw (h, k, m) at e))
      | inr m ↦ longer true front c tokens (begins true false n joined (front ++ c ∷ []) text tokens (rw (h, k, m) at e))
    ]
  ]
]

-- the same of the tokens before the octet at which the text is rejected, if there are any
abbrev SeenSoFar : Bool → List ℕ → List Token → Type 0
SeenSoFar quoted front tokens = (tokens ≡ []) ⊎ BeginsSoFar quoted front tokens

token_seen : (token : Token) (others : List Token) → SeenSoFar token.quoted token.octets (token ∷ others)
token_seen token others =
    inr (record { first = token; others = others; more = []; are = refl; same = sym (append-nil token.octets); quotes = refl })

seen_longer : (quoted : Bool) (front : List ℕ) (c : ℕ) (tokens : List Token) → SeenSoFar quoted (front ++ c ∷ []) tokens → SeenSoFar quoted front tokens
seen_longer quoted front c tokens (inl none) = inl none
seen_longer quoted front c tokens (inr so) = inr (longer quoted front c tokens so)

line_seen : (quoted : Bool) (front text : List ℕ) → SeenSoFar quoted front (seen_from (refused LineInQuotes) text)
line_seen quoted front text = inl (refused_seen LineInQuotes text)

seen : (quoted slash : Bool) (n : ℕ) (joined : Bool) (front text : List ℕ)
    → SeenSoFar quoted front (seen_from (in_token quoted slash n joined front) text)
seen false true n joined front [] = token_seen (record { octets = front; quoted = false; joined = joined }) []
seen false false n joined front [] = token_seen (record { octets = front; quoted = false; joined = joined }) []
seen true true n joined front [] = inl refl
seen true false n joined front [] = inl refl
seen false true n joined front (c ∷ text) = elim (either_way (is_line_end c)) [
  | inl h ↦ rw h (token_seen (record { octets = front; quoted = false; joined = joined }) _)
  | inr h ↦ rw h (seen_longer false front c _ (seen false false n joined (front ++ c ∷ []) text))
]
seen false false n joined front (c ∷ text) = elim (either_way (ends_run c)) [
  | inl h ↦ rw h (token_seen (record { octets = front; quoted = false; joined = joined }) _)
  | inr h ↦ elim (either_way (c == 92)) [
    | inl k ↦ rw (h, k) (seen_longer false front c _ (seen false true n joined (front ++ c ∷ []) text))
    | inr k ↦ rw (h, k) (seen_longer false front c _ (seen false false n joined (front ++ c ∷ []) text))
  ]
]
seen true true n joined front (c ∷ text) = seen_longer true front c _ (seen true false n joined (front ++ c ∷ []) text)
seen true false n joined front (c ∷ text) = elim (either_way (c == 34)) [
  | inl h ↦ rw h (token_seen (record { octets = front; quoted = true; joined = joined }) _)
  | inr h ↦ elim (either_way (c == 10)) [
    | inl k ↦ rw (h, k) (line_seen true front text)
    | inr k ↦ elim (either_way (c == 92)) [
      | inl m ↦ rw (h, k, m) (seen_longer true front c _ (seen true true n joined (front ++ c ∷ []) text))
      | inr m ↦ rw (h, k, m) (seen_longer true front c _ (seen true false n joined (front ++ c ∷ []) text))
    ]
  ]
]

-- ---- the first token is not `\#`

seen_unmarked : {quoted : Bool} {front : List ℕ} (tokens : List Token) → (BeginsSoFar quoted front tokens → AreUnmarked tokens) → SeenSoFar quoted front tokens
    → AreUnmarked tokens
seen_unmarked tokens unmarked (inl none) = subst AreUnmarked (sym none) tt
seen_unmarked tokens unmarked (inr so) = unmarked so

quoted_unmarked : (tokens : List Token) → BeginsSoFar true [] tokens → AreUnmarked tokens
quoted_unmarked tokens so = subst AreUnmarked (sym so.are) (λ mark. let both : true ≡ false = sym so.quotes ∙ mark.bare in absurd (cc))

other_unmarked : (c : ℕ) (tokens : List Token) → c ≢ 92 → BeginsSoFar false (c ∷ []) tokens → AreUnmarked tokens
other_unmarked c tokens other so = subst AreUnmarked (sym so.are) (λ mark.
    let both : c ∷ so.more ≡ 92 ∷ 35 ∷ [] = sym so.same ∙ mark.octets in
    let same : c ≡ 92 = cc in
    other same)

pub quote_first : (text : List ℕ) → 0 < length text → get_or text 0 0 ≡ 34 → HasNoMark text
quote_first [] some e = absurd (omega arith)
quote_first (c ∷ text) some e = record {
  unmarked = λ tokens divided. quoted_unmarked tokens (begins true false zero false [] text tokens (rw e at divided));
  seen = rw e (seen_unmarked (seen_from (quotes zero false []) text) (quoted_unmarked (seen_from (quotes zero false []) text)) (seen true false zero false [] text));
}

other_octet : (c d : ℕ) → c ≢ d → (c == d) ≡ false
other_octet c d h = grind (arith, nat_tests)

unmarked_spot : (c : ℕ) → 41 < c → c ≢ 59 → c ≢ 92 → gap_on zero false c ≡ run zero false (c ∷ [])
unmarked_spot c above other slash =
    let a : (c == 32) ≡ false = other_octet c 32 (omega arith) in
    let b : (c == 9) ≡ false = other_octet c 9 (omega arith) in
    let d : (c == 10) ≡ false = other_octet c 10 (omega arith) in
    let f : (c == 13) ≡ false = other_octet c 13 (omega arith) in
    let g : (c == 59) ≡ false = other_octet c 59 other in
    let h : (c == 40) ≡ false = other_octet c 40 (omega arith) in
    let i : (c == 41) ≡ false = other_octet c 41 (omega arith) in
    let j : (c == 34) ≡ false = other_octet c 34 (omega arith) in
    let k : (c == 92) ≡ false = other_octet c 92 slash in
    rw (a, b, d, f, g, h, i, j, k) refl

pub unmarked_first : (text : List ℕ) → 0 < length text → 41 < get_or text 0 0 → get_or text 0 0 ≢ 59 → get_or text 0 0 ≢ 92 → HasNoMark text
unmarked_first [] some above other slash = absurd (omega arith)
unmarked_first (c ∷ text) some above other slash = record {
  unmarked = λ tokens divided. other_unmarked c tokens slash
      (begins false false zero false (c ∷ []) text tokens (subst (λ (spot : Spot). tokens_read_from spot text ≡ Ok tokens) (unmarked_spot c above other slash)
      divided));
  seen = subst (λ (spot : Spot). AreUnmarked (seen_from spot text)) (sym (unmarked_spot c above other slash))
      (seen_unmarked (seen_from (run zero false (c ∷ [])) text) (other_unmarked c (seen_from (run zero false (c ∷ [])) text) slash)
      (seen false false zero false (c ∷ []) text));
}
