-- Digits written in tokens are read as these tokens.
use Rattle.std.proofs.Common.{◌≡◌, ◌≢◌, ℕ, zero, suc, ◌+◌, ◌-◌, ◌<◌, ◌≤◌, List, [], ◌∷◌, ◌++◌, length, Ok, refl, ◌∙◌, ap, append_assoc, arith, false}
use Rattle.dns_zone_tokens.specs.{Remaining.AllBare, Remaining.joined, Remaining.with_tokens}
use Rattle.dns_zone_tokens.specs.Tokens.{Token, between, run, tokens_read_from, with_token}
use Rattle.dns_rdata_zone.specs.{Printable.ArePrintable, Tokens.tokens_from, Tokens.in_tokens, Tokens.left_after}
use Rattle.dns_rdata_zone.proofs.Dividing.{AreDivided, AreRunOctets, bare_token, begins_is, blank_printable, one_printable, run_is}

-- ---- how they are written

-- characters, and others after them
pub tokens_append : (left : ℕ) (a b : List ℕ) → tokens_from left (a ++ b) ≡ tokens_from left a ++ tokens_from (left_after left (length a)) b
tokens_append left [] b = refl
tokens_append zero (c ∷ a) b = ap (λ (t : List ℕ). 32 ∷ c ∷ t) (tokens_append 1019 a b)
tokens_append (suc left) (c ∷ a) b = ap (λ (t : List ℕ). c ∷ t) (tokens_append left a b)

-- what the token takes is in it
pub tokens_fit : (left : ℕ) (s : List ℕ) → length s ≤ left → tokens_from left s ≡ s
tokens_fit left [] h = refl
tokens_fit zero (c ∷ s) h = absurd (omega arith)
tokens_fit (suc left) (c ∷ s) h = ap (λ (t : List ℕ). c ∷ t) (tokens_fit left s (omega arith))

-- as many as it takes, and others after them
pub tokens_full : (left : ℕ) (a b : List ℕ) → length a ≡ left → b ≢ [] → tokens_from left (a ++ b) ≡ a ++ 32 ∷ tokens_from 1020 b
tokens_full left [] [] h some = absurd (some refl)
tokens_full zero [] (c ∷ b) h some = refl
tokens_full (suc left) [] (c ∷ b) h some = absurd (omega arith)
tokens_full zero (c ∷ a) b h some = absurd (omega arith)
tokens_full (suc left) (c ∷ a) b h some = ap (λ (t : List ℕ). c ∷ t) (tokens_full left a b (omega arith) some)

pub after_fits : (left n : ℕ) → n ≤ left → left_after left n ≡ left - n
after_fits left zero h = omega arith
after_fits zero (suc n) h = absurd (omega arith)
after_fits (suc left) (suc n) h = omega (arith, after_fits left n (omega arith))

pub after_full : (left n m : ℕ) → n ≡ left + m → 0 < m → left_after left n ≡ left_after 1020 m
after_full left zero m e h = absurd (omega arith)
after_full zero (suc n) zero e h = absurd (omega arith)
after_full zero (suc n) (suc m) e h = let same : n ≡ m = omega arith in ap (left_after 1019) same
after_full (suc left) (suc n) m e h = after_full left n m (omega arith) h

-- ---- how they are divided

-- the tokens of characters after the front of one
abbrev pub split_tokens : ℕ → List ℕ → List ℕ → List Token
split_tokens left front [] = bare_token front ∷ []
split_tokens zero front (c ∷ s) = bare_token front ∷ split_tokens 1019 (c ∷ []) s
split_tokens (suc left) front (c ∷ s) = split_tokens left (front ++ c ∷ []) s

abbrev pub digit_tokens : List ℕ → List Token
digit_tokens [] = []
digit_tokens (c ∷ s) = split_tokens 1019 (c ∷ []) s

split_then : (left : ℕ) (front s : List ℕ) → AreRunOctets s → (rest : List ℕ)
    → tokens_read_from (run 0 false front) (tokens_from left s ++ 32 ∷ rest) ≡ with_tokens (split_tokens left front s) (tokens_read_from (between 0 false) rest)
split_then left front [] h rest = refl
split_then zero front (c ∷ s) h rest =
    ap (with_token (bare_token front)) (begins_is c h.0 (tokens_from 1019 s ++ 32 ∷ rest) ∙ split_then 1019 (c ∷ []) s h.1 rest)
split_then (suc left) front (c ∷ s) h rest =
    run_is c h.0 front (tokens_from left s ++ 32 ∷ rest) ∙ split_then left (front ++ c ∷ []) s h.1 rest

split_last : (left : ℕ) (front s : List ℕ) → AreRunOctets s → tokens_read_from (run 0 false front) (tokens_from left s) ≡ Ok (split_tokens left front s)
split_last left front [] h = refl
split_last zero front (c ∷ s) h =
    ap (with_token (bare_token front)) (begins_is c h.0 (tokens_from 1019 s) ∙ split_last 1019 (c ∷ []) s h.1)
split_last (suc left) front (c ∷ s) h = run_is c h.0 front (tokens_from left s) ∙ split_last left (front ++ c ∷ []) s h.1

tokens_printable : (left : ℕ) (s : List ℕ) → AreRunOctets s → ArePrintable (tokens_from left s)
tokens_printable left [] h = tt
tokens_printable zero (c ∷ s) h = blank_printable (c ∷ tokens_from 1019 s) (one_printable c h.0, tokens_printable 1019 s h.1)
tokens_printable (suc left) (c ∷ s) h = (one_printable c h.0, tokens_printable left s h.1)

pub tokens_divided : (s : List ℕ) → s ≢ [] → AreRunOctets s → AreDivided (in_tokens s) (digit_tokens s)
tokens_divided [] some h = absurd (some refl)
tokens_divided (c ∷ s) some h = record {
  then = λ rest. begins_is c h.0 (tokens_from 1019 s ++ 32 ∷ rest) ∙ split_then 1019 (c ∷ []) s h.1 rest;
  last = begins_is c h.0 (tokens_from 1019 s) ∙ split_last 1019 (c ∷ []) s h.1;
  printable = tokens_printable 1020 (c ∷ s) h;
}

split_bare : (left : ℕ) (front s : List ℕ) → AllBare (split_tokens left front s)
split_bare left front [] = (refl, tt)
split_bare zero front (c ∷ s) = (refl, split_bare 1019 (c ∷ []) s)
split_bare (suc left) front (c ∷ s) = split_bare left (front ++ c ∷ []) s

pub tokens_bare : (s : List ℕ) → AllBare (digit_tokens s)
tokens_bare [] = tt
tokens_bare (c ∷ s) = split_bare 1019 (c ∷ []) s

split_joined : (left : ℕ) (front s : List ℕ) → joined (split_tokens left front s) ≡ front ++ s
split_joined left front [] = refl
split_joined zero front (c ∷ s) = ap (λ (t : List ℕ). front ++ t) (split_joined 1019 (c ∷ []) s)
split_joined (suc left) front (c ∷ s) = split_joined left (front ++ c ∷ []) s ∙ append_assoc front (c ∷ []) s

-- the tokens are the characters again
pub tokens_joined : (s : List ℕ) → joined (digit_tokens s) ≡ s
tokens_joined [] = refl
tokens_joined (c ∷ s) = split_joined 1019 (c ∷ []) s
