-- The words of a plain text, one by one.
use Rattle.std.proofs.Common.{◌≡◌, ◌≢◌, ℕ, ◌<◌, Bool, true, false, not, List, [], ◌∷◌, ◌++◌, length, drop, get_or, refl, sym, ◌∙◌, ap, subst, arith, inl, inr}
use Rattle.std.proofs.lemmas.{List.append-nil, List.nil_from_length, List.length-append, Bool.and_from, Bool.Decides.nat_tests}
use Rattle.std.specs.{Cmp.first_so, Cmp.second_so, Prelude.◌==◌, Prelude.◌⊎◌, Prelude.nat_eq, Bool.OnTrue}
use Rattle.dns_tokens.specs.{Quoted.Quoted, Quoted.Quoted.closed, TextWords.TextWords, TextWords.TextWords.ended as no_words, TextWords.TextWords.token}
use Rattle.dns_tokens.specs.Octets.{is_blank, is_line_end, is_gap, is_special, ends_run, AllOf, Span}
use Rattle.dns_tokens.specs.Tokens.{Run, FirstToken, TokenValue.char_data, FirstToken.blanks, FirstToken.line, FirstToken.run, FirstToken.quoted}
use Rattle.dns_tokens.specs.Tokens.{LineEnd.line_feed, LineEnd.both, LineEnd.return, NoToken.ended as no_token}
use Rattle.dns_tokens.specs.Plain.{IsPlainWord, NoPlainWord, ArePlain, IsPlain, PlainFirst, HasNoWord}
use Rattle.dns_tokens.specs.Plain.{IsPlainWord.run as plain_run, IsPlainWord.quoted as plain_quotes, ArePlain.ended, ArePlain.one_more}
use Rattle.dns_tokens.proofs.{SpanSteps.span_prefix, TokenSteps.span_one, TokenSteps.end_octet, Firsts.opened, Firsts.first_ends, QuotedSteps.gives_run}
use Rattle.dns_tokens.proofs.{WordSteps.run_octet, FirstSteps.first_one, FirstSteps.first_shorter, FirstSteps.at_here, WholeSteps.only_token}

-- ---- a plain word is the text's first token

quotes_whole : {end : ℕ} {word text rest : List ℕ} → end ≡ 34 → Span (λ c. not (is_special c)) word text (end ∷ rest) → Quoted word text rest
quotes_whole e s = first_ends (gives_run s) (closed e)

plain_token : {word text rest : List ℕ} → IsPlainWord word text rest → FirstToken (char_data word) text rest
plain_token (plain_run r n) = run r n
plain_token (plain_quotes q e s) = quoted q (quotes_whole e s)

plain_one : {word other text rest end : List ℕ} → IsPlainWord word text rest → IsPlainWord other text end → (word ≡ other) × (rest ≡ end)
plain_one p q = let x = first_one (plain_token p) (plain_token q) in (cc, x.1)

plain_shorter : {word text rest : List ℕ} → IsPlainWord word text rest → length rest < length text
plain_shorter p = first_shorter (plain_token p)

-- ---- the words of a plain text are those of its tokens

behind_blanks : (blanks : List ℕ) {words : List (List ℕ)} {text rest : List ℕ} → Span is_blank blanks text rest → TextWords words text → TextWords words rest
behind_blanks [] {words} s w = subst (λ (t : List ℕ). TextWords words t) s.cut w
behind_blanks (c ∷ others) {rest} s w =
    let x = only_token (blanks c others s) refl w in
    subst (λ (l : List (List ℕ)). TextWords l rest) (sym x.1) x.2

blank_more : (c : ℕ) {words : List (List ℕ)} (text : List ℕ) → is_blank c ≡ true → TextWords words text → TextWords words (c ∷ text)
blank_more c text e w =
    let s = span_prefix is_blank text in
    token (blanks c _ (record { cut = ap (λ (t : List ℕ). c ∷ t) s.cut; each = and_from _ _ e s.each; ends = s.ends })) refl (behind_blanks _ s w) refl

line_more : (c : ℕ) {words : List (List ℕ)} (text : List ℕ) → is_line_end c ≡ true → TextWords words text → TextWords words (c ∷ text)
line_more c {words} text e w = by text w (end_octet c e)
  where
    by : (text : List ℕ) → TextWords words text → (c ≡ 10) ⊎ (c ≡ 13) → TextWords words (c ∷ text)
    by text w (inl lf) = token (line (line_feed lf)) refl w refl
    by [] w (inr cr) = token (line (return cr tt)) refl w refl
    by (d ∷ text) w (inr cr) = feed (d == 10) refl
      where
        feed : (b : Bool) → (d == 10) ≡ b → TextWords words (c ∷ d ∷ text)
        feed true h =
            let lf : d ≡ 10 = grind (arith, nat_tests) in
            let x = only_token (line (line_feed lf)) refl w in
            token (line (both cr lf)) refl x.2 x.1
        feed false h = token (line (return cr h)) refl w refl

gap_more : (c : ℕ) {words : List (List ℕ)} (text : List ℕ) → is_gap c ≡ true → TextWords words text → TextWords words (c ∷ text)
gap_more c {words} text e w = by (is_blank c) refl
  where
    by : (b : Bool) → is_blank c ≡ b → TextWords words (c ∷ text)
    by true h = blank_more c text h w
    by false h = line_more c text (grind (arith, nat_tests)) w

gaps_more : (gaps rest : List ℕ) {words : List (List ℕ)} → AllOf is_gap gaps → TextWords words rest → TextWords words (gaps ++ rest)
gaps_more [] rest h w = w
gaps_more (c ∷ gaps) rest h w = gap_more c (gaps ++ rest) (first_so _ _ h) (gaps_more gaps rest (second_so (is_gap c) _ h) w)

pub plain_words : {words : List (List ℕ)} {text : List ℕ} → ArePlain words text → TextWords words text
plain_words (ended {text} h) = subst (λ (t : List ℕ). TextWords [] t) (append-nil text) (gaps_more text [] h (no_words no_token))
plain_words (one_more {gaps} {more} {words} s p a) =
    rw s.cut (gaps_more gaps more s.each (token (plain_token p) refl (plain_words a) refl))

-- ---- the first word

all_gaps : {text : List ℕ} → AllOf is_gap text → Span is_gap text text []
all_gaps {text} h = record { cut = sym (append-nil text); each = h; ends = tt }

only_word : {gaps text more first rest : List ℕ} {words : List (List ℕ)} → Span is_gap gaps text more → IsPlainWord first more rest → ArePlain words text
    → (later : List (List ℕ)) × (words ≡ first ∷ later) × ArePlain later rest
only_word s p (ended h) = absurd (omega (arith, ap length (span_one s (all_gaps h)).1, plain_shorter p))
only_word {more} s p (one_more {word = other} {rest = end} {words = later} g q a) =
    let x = plain_one p (subst (λ (t : List ℕ). IsPlainWord other t end) (sym (span_one s g).1) q) in
    (later, ap (λ (w : List ℕ). w ∷ later) (sym x.0), subst (λ (t : List ℕ). ArePlain later t) (sym x.1) a)

pub word_first : {gaps text more first rest : List ℕ} → Span is_gap gaps text more → IsPlainWord first more rest → PlainFirst (first ∷ []) text rest
word_first s p = record { gives = λ words _ a. one_more s p a; only = λ words _ a. only_word s p a }

pub word_shorter : {gaps text more first rest : List ℕ} → Span is_gap gaps text more → IsPlainWord first more rest → length rest < length text
word_shorter {gaps} {more} s p = omega (arith, ap length s.cut, length-append gaps more, plain_shorter p)

pub no_word : {gaps text more : List ℕ} → Span is_gap gaps text more → NoPlainWord more → HasNoWord text
no_word {gaps} {text} {more} s n words a = by a
  where
    by : {words : List (List ℕ)} → ArePlain words text → words ≡ []
    by (ended h) = refl
    by (one_more {word = other} {rest = end} g q a) = absurd (n other end (subst (λ (t : List ℕ). IsPlainWord other t end) (sym (span_one s g).1) q))

-- only gaps are left
ends_plain : {front : List (List ℕ)} {gaps text rest : List ℕ} (more : List ℕ) → PlainFirst front text rest → Span is_gap gaps rest more → length more ≡ 0 → ArePlain front text
ends_plain {gaps} {rest} more f s l =
    let over : more ≡ [] = nil_from_length more l in
    let same : rest ≡ gaps = s.cut ∙ (ap (λ (t : List ℕ). gaps ++ t) over ∙ append-nil gaps) in
    first_ends {end = tt} f (ended (rw same s.each))

pub plain_if : {front : List (List ℕ)} {gaps text rest : List ℕ} (more : List ℕ) → PlainFirst front text rest → Span is_gap gaps rest more
    → OnTrue (nat_eq (length more) 0) (IsPlain text)
plain_if {front} {text} more f s = by (nat_eq (length more) 0) refl
  where
    by : (b : Bool) → nat_eq (length more) 0 ≡ b → OnTrue b (IsPlain text)
    by true h = (front, ends_plain more f s (grind (arith, nat_tests)))
    by false h = tt

-- ---- whether a plain word is here

pub run_here : {word text rest : List ℕ} → Span (λ c. not (ends_run c)) word text rest → length word ≢ 0 → get_or text 0 0 ≢ 34 → get_or text 0 0 ≢ 40 → Run word text rest
run_here {word = []} s l q k = absurd (l refl)
run_here {word = d ∷ word} s l q k =
    let same = ap (λ (x : List ℕ). get_or x 0 0) s.cut in
    record { first = d; others = word; is_word = refl; no_quote = λ f. q (same ∙ f); no_list = λ f. k (same ∙ f); goes_on = s }

-- a word that is no single `@`
pub run_word : {word text rest : List ℕ} → Span (λ c. not (ends_run c)) word text rest → length word ≢ 0 → get_or text 0 0 ≢ 34 → get_or text 0 0 ≢ 40
    → (length word ≡ 1 → get_or text 0 0 ≢ 64) → IsPlainWord word text rest
run_word {word} {rest} s l q k n =
    plain_run (run_here s l q k) (λ e. n (ap length e) (ap (λ (x : List ℕ). get_or x 0 0) (s.cut ∙ ap (λ (w : List ℕ). w ++ rest) e)))

-- no word
pub none_empty : {word text rest : List ℕ} → Span (λ c. not (ends_run c)) word text rest → length word ≡ 0 → get_or text 0 0 ≢ 34 → NoPlainWord text
none_empty s l q other end (plain_run r n) = omega (arith, ap length (span_one s r.goes_on).0, ap length r.is_word)
none_empty s l q other end (plain_quotes e f t) = q e

pub none_list : {text : List ℕ} → get_or text 0 0 ≡ 40 → NoPlainWord text
none_list e other end (plain_run r n) = (run_octet r).2 e
none_list e other end (plain_quotes q f t) = omega arith

pub none_at : {word text rest : List ℕ} → Span (λ c. not (ends_run c)) word text rest → length word ≡ 1 → get_or text 0 0 ≡ 64 → NoPlainWord text
none_at {word} s l e other end (plain_run r n) =
    let x = first_one (at_here r (omega (arith, ap length (span_one s r.goes_on).0)) e) (run r n) in absurd (cc (x.0))
none_at s l e other end (plain_quotes q f t) = omega arith

-- in quotes
pub quotes_word : {text behind word more rest : List ℕ} → 0 < length text → get_or text 0 0 ≡ 34 → behind ≡ drop 1 text
    → Span (λ c. not (is_special c)) word behind more → 0 < length more → get_or more 0 0 ≡ 34 → rest ≡ drop 1 more → IsPlainWord word text rest
quotes_word {behind} {word} l e d s k f g = rw (opened l d) (plain_quotes e f (subst (λ (t : List ℕ). Span (λ c. not (is_special c)) word behind t) (opened k g) s))

pub no_quotes : {text behind word more : List ℕ} → 0 < length text → get_or text 0 0 ≡ 34 → behind ≡ drop 1 text
    → Span (λ c. not (is_special c)) word behind more → (0 < length more → get_or more 0 0 ≢ 34) → NoPlainWord text
no_quotes l e d s n other end (plain_run r m) = (run_octet r).1 e
no_quotes {word} {more} l e d s n other end (plain_quotes {end = quote} q f t) =
    let same = (span_one (subst (λ (x : List ℕ). Span (λ c. not (is_special c)) word x more) d s) t).1 in
    n (omega (arith, ap length same)) (ap (λ (x : List ℕ). get_or x 0 0) same ∙ f)
