-- The steps by which the words of a whole text are read.
use Rattle.std.proofs.Common.{◌≡◌, ℕ, List, ◌++◌, Option, Some, None, refl, ◌∙◌, ap, subst}
use Rattle.dns_tokens.specs.{TextWords.token_words, TextWords.TextWords, TextWords.NoTextWords, TextWords.AddsWords, Quoted.First}
use Rattle.dns_tokens.specs.{Tokens.TokenValue, Tokens.FirstToken, Tokens.NoToken, Tokens.HasNoTokens, TextWords.TextWords.ended, TextWords.TextWords.token}
use Rattle.dns_tokens.proofs.{Firsts.first_both, Firsts.first_ends, Firsts.first_refused, FirstSteps.first_one, FirstSteps.none_or_first}

-- what the text gives is these words and what more gives
abbrev pub TextFirst : List (List ℕ) → List ℕ → List ℕ → Type 0
TextFirst = First {E = Unit {0}} (λ words text _. TextWords words text)

some_one : {a b : List (List ℕ)} {o : Option (List (List ℕ))} → o ≡ Some a → o ≡ Some b → a ≡ b
some_one e f = cc

-- behind one token
pub only_token : {t : TokenValue} {front words : List (List ℕ)} {text rest : List ℕ} → FirstToken t text rest → token_words t ≡ Some front
    → TextWords words text → (later : List (List ℕ)) × (words ≡ front ++ later) × TextWords later rest
only_token f e (ended n) = absurd (none_or_first n f)
only_token {t} {front} f e (token {front = other} {words = later} g h w k) =
    let x = first_one g f in
    let same : other ≡ front = some_one h (ap token_words x.0 ∙ e) in
    (later, k ∙ ap (λ (l : List (List ℕ)). l ++ later) same, subst (λ (r : List ℕ). TextWords later r) x.1 w)

one_token : {t : TokenValue} {front : List (List ℕ)} {text rest : List ℕ} → FirstToken t text rest → token_words t ≡ Some front → TextFirst front text rest
one_token f e = record { gives = λ w _ t. token f e t refl; only = λ w _ t. only_token f e t }

pub text_more : {t : TokenValue} {old new : List (List ℕ)} (text more rest : List ℕ) → TextFirst old text more → FirstToken t more rest
    → AddsWords t old new → TextFirst new text rest
text_more text more rest s f a = rw a.behind (first_both s (one_token f a.gives))

pub text_done : {front : List (List ℕ)} (text more : List ℕ) → TextFirst front text more → NoToken more → TextWords front text
text_done text more s n = first_ends {end = tt} s (ended n)

wrong_token : {t : TokenValue} {words : List (List ℕ)} {text rest : List ℕ} → FirstToken t text rest → token_words t ≡ None → TextWords words text → ⊥
wrong_token f e (ended n) = none_or_first n f
wrong_token f e (token g h w k) =
    let same = ap token_words (first_one g f).0 in
    cc

pub refused_token : {t : TokenValue} {front : List (List ℕ)} (text more rest : List ℕ) → TextFirst front text more → FirstToken t more rest
    → token_words t ≡ None → NoTextWords text
refused_token text more rest s f e = λ w. first_refused s (λ later _ t. wrong_token f e t) w tt

none_of_none : {words : List (List ℕ)} {text : List ℕ} → HasNoTokens text → TextWords words text → ⊥
none_of_none h (ended n) = h.goes_on n
none_of_none h (token f e w k) = h.no_token f

pub refused_text : {front : List (List ℕ)} (text more : List ℕ) → TextFirst front text more → HasNoTokens more → NoTextWords text
refused_text text more s h = λ w. first_refused s (λ later _ t. none_of_none h t) w tt
