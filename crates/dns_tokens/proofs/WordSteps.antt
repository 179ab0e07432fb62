-- The steps by which the words of a list are read.
use Rattle.std.proofs.Common.{◌≡◌, ◌≢◌, ℕ, ◌<◌, true, false, not, List, [], ◌∷◌, ◌++◌, length, drop, get_or, refl, sym, ◌∙◌, ap, subst, arith}
use Rattle.std.proofs.lemmas.{Bool.Decides.nat_tests, List.length-append}
use Rattle.std.specs.Cmp.{first_so}
use Rattle.dns_tokens.specs.Tokens.{Words.closed, Words.gap, Words.remark, Words.quoted, Words.run, Comment.comment, Run, Comment, Words, NoWords}
use Rattle.dns_tokens.specs.{Quoted.Quoted, Quoted.NotQuoted, Quoted.First, Octets.is_gap, Octets.ends_run, Octets.AllOf, Octets.Span}
use Rattle.dns_tokens.proofs.{Firsts.opened, Firsts.first_ends, Firsts.same_behind, QuotedSteps.quoted_shorter, QuotedSteps.quoted_one, TokenSteps.span_one}

-- a run ends where its first octet would not go on
pub run_octet : {word text rest : List ℕ} → Run word text rest
    → (ends_run (get_or text 0 0) ≡ false) × (get_or text 0 0 ≢ 34) × (get_or text 0 0 ≢ 40)
run_octet {word} {text} {rest} r =
    let same : get_or text 0 0 ≡ r.first = ap (λ (x : List ℕ). get_or x 0 0) (r.goes_on.cut ∙ ap (λ (w : List ℕ). w ++ rest) r.is_word) in
    let each : AllOf (λ x. not (ends_run x)) (r.first ∷ r.others) = subst (λ (w : List ℕ). AllOf (λ x. not (ends_run x)) w) r.is_word r.goes_on.each in
    let goes : not (ends_run r.first) ≡ true = first_so _ _ each in
    let on : ends_run r.first ≡ false = grind (arith, nat_tests) in
    (ap ends_run same ∙ on, λ e. r.no_quote (sym same ∙ e), λ e. r.no_list (sym same ∙ e))

pub comment_octet : {text more : List ℕ} (c : ℕ) → Comment (c ∷ text) more → c ≡ 59
comment_octet c (comment r e s) = e

pub comment_one : {text more other : List ℕ} → Comment text more → Comment text other → more ≡ other
comment_one (comment r e s) (comment q f t) = (span_one s t).1

gap_other : (c : ℕ) → is_gap c ≡ true → (c ≢ 41) × (c ≢ 59) × (c ≢ 34) × (ends_run c ≡ true)
gap_other c e = (λ f. grind (arith, nat_tests), λ f. grind (arith, nat_tests), λ f. grind (arith, nat_tests), grind (arith, nat_tests))

-- a blank or a line end
only_gap : {c : ℕ} {words : List (List ℕ)} {text rest : List ℕ} → is_gap c ≡ true → Words words (c ∷ text) rest → Words words text rest
only_gap {c} e (closed p) = absurd ((gap_other c e).0 p)
only_gap e (gap h w) = w
only_gap {c} e (remark k w) = absurd ((gap_other c e).1 (comment_octet c k))
only_gap {c} e (quoted q v w) = absurd ((gap_other c e).2 q)
only_gap {c} e (run r w) = let yes = (gap_other c e).3 in let no = (run_octet r).0 in absurd (cc)

pub words_gap : {s rest : List ℕ} → 0 < length s → is_gap (get_or s 0 0) ≡ true → rest ≡ drop 1 s → First Words [] s rest
words_gap l e d = rw (opened l d) (record { gives = λ v r q. gap e q; only = λ v r q. (v, refl, only_gap e q) })

-- a comment
only_remark : {words : List (List ℕ)} {text more rest : List ℕ} → Comment text more → Words words text rest → Words words more rest
only_remark (comment {semicolon} k e s) (closed p) = absurd (omega arith)
only_remark (comment {semicolon} k e s) (gap h w) = absurd ((gap_other semicolon h).1 e)
only_remark {rest} k (remark {words} j w) = subst (λ (t : List ℕ). Words words t rest) (comment_one j k) w
only_remark (comment k e s) (quoted q v w) = absurd (omega arith)
only_remark (comment {semicolon} k e s) (run r w) = let no = (run_octet r).0 in absurd (grind (arith, nat_tests))

pub words_remark : {text more : List ℕ} → Comment text more → First Words [] text more
words_remark k = record { gives = λ v r q. remark k q; only = λ v r q. (v, refl, only_remark k q) }

-- a quoted word
only_quoted : {quote : ℕ} {word : List ℕ} {words : List (List ℕ)} {text more rest : List ℕ} → quote ≡ 34 → Quoted word text more
    → Words words (quote ∷ text) rest → (later : List (List ℕ)) × (words ≡ word ∷ later) × Words later more rest
only_quoted e v (closed p) = absurd (omega arith)
only_quoted {quote} e v (gap h w) = absurd ((gap_other quote h).2 e)
only_quoted {quote} e v (remark k w) = absurd (omega (arith, comment_octet quote k))
only_quoted {rest} e v (quoted {words} q u w) =
    let x = quoted_one v u in
    (words, ap (λ (l : List ℕ). l ∷ words) (sym x.0), subst (λ (t : List ℕ). Words words t rest) (sym x.1) w)
only_quoted {quote} e v (run r w) = absurd ((run_octet r).1 e)

pub words_quoted : {s behind more word : List ℕ} → 0 < length s → get_or s 0 0 ≡ 34 → behind ≡ drop 1 s → Quoted word behind more
    → First Words (word ∷ []) s more
words_quoted l e d v = rw (opened l d) (record { gives = λ w r q. quoted e v q; only = λ w r q. only_quoted e v q })

-- a run
only_run : {word : List ℕ} {words : List (List ℕ)} {text more rest : List ℕ} → Run word text more → Words words text rest
    → (later : List (List ℕ)) × (words ≡ word ∷ later) × Words later more rest
only_run r (closed {paren} p) = let no = (run_octet r).0 in absurd (grind (arith, nat_tests))
only_run r (gap {c} h w) = let yes = (gap_other c h).3 in let no = (run_octet r).0 in absurd (cc)
only_run r (remark (comment {semicolon} k e s) w) = let no = (run_octet r).0 in absurd (grind (arith, nat_tests))
only_run r (quoted {quote} q v w) = absurd ((run_octet r).1 q)
only_run {rest} r (run {words} t w) =
    let x = span_one r.goes_on t.goes_on in
    (words, ap (λ (l : List ℕ). l ∷ words) (sym x.0), subst (λ (t : List ℕ). Words words t rest) (sym x.1) w)

pub words_run : {word text more : List ℕ} → Run word text more → First Words (word ∷ []) text more
words_run t = record { gives = λ w r q. run t q; only = λ w r q. only_run t q }

-- what begins otherwise than with what may not begin a word is a run
run_at : (s word more : List ℕ) → Span (λ c. not (ends_run c)) word s more → 0 < length s → ends_run (get_or s 0 0) ≡ false → get_or s 0 0 ≢ 34
    → get_or s 0 0 ≢ 40 → Run word s more
run_at s [] [] p l e q k = absurd (omega (arith, ap length p.cut))
run_at s [] (d ∷ more) p l e q k =
    let no : not (ends_run (get_or s 0 0)) ≡ false = ap (λ (x : List ℕ). not (ends_run (get_or x 0 0))) p.cut ∙ p.ends in
    absurd (grind (arith, nat_tests))
run_at s (d ∷ word) more p l e q k =
    let same : get_or s 0 0 ≡ d = ap (λ (x : List ℕ). get_or x 0 0) p.cut in
    record { first = d; others = word; is_word = refl; no_quote = λ f. q (same ∙ f); no_list = λ f. k (same ∙ f); goes_on = p }

pub run_here : {s word more : List ℕ} → Span (λ c. not (ends_run c)) word s more → 0 < length s → is_gap (get_or s 0 0) ≡ false → get_or s 0 0 ≢ 41
    → get_or s 0 0 ≢ 59 → get_or s 0 0 ≢ 34 → get_or s 0 0 ≢ 40 → Run word s more
run_here {s} {word} {more} p l a b d q k = run_at s word more p l (grind (arith, nat_tests)) q k

pub run_shorter : {word text rest : List ℕ} → Run word text rest → length rest < length text
run_shorter {word} {text} {rest} r = omega (arith, ap length r.goes_on.cut, ap length r.is_word, length-append word rest)

-- what ends the list
only_closed : {paren : ℕ} {words : List (List ℕ)} {text rest : List ℕ} → paren ≡ 41 → Words words (paren ∷ text) rest → (words ≡ []) × (rest ≡ text)
only_closed e (closed p) = (refl, refl)
only_closed {paren} e (gap h w) = absurd ((gap_other paren h).0 e)
only_closed {paren} e (remark k w) = absurd (omega (arith, comment_octet paren k))
only_closed e (quoted q v w) = absurd (omega arith)
only_closed {paren} e (run r w) = let no = (run_octet r).0 in absurd (grind (arith, nat_tests))

pub ends_words : {front : List (List ℕ)} {text more rest : List ℕ} → First Words front text more → 0 < length more → get_or more 0 0 ≡ 41
    → rest ≡ drop 1 more → Words front text rest
ends_words g l e d = first_ends g (rw (opened l d) (closed e))

pub words_shorter : {words : List (List ℕ)} {text rest : List ℕ} → Words words text rest → length rest < length text
words_shorter (closed p) = omega arith
words_shorter (gap h w) = omega (arith, words_shorter w)
words_shorter (remark (comment {text} {rest} k e s) w) = omega (arith, words_shorter w, ap length s.cut, length-append k rest)
words_shorter (quoted q v w) = omega (arith, words_shorter w, quoted_shorter v)
words_shorter (run r w) = omega (arith, words_shorter w, run_shorter r)

-- no list stands here
pub no_words_empty : (s : List ℕ) → length s ≡ 0 → NoWords s
no_words_empty s e = λ v r q. omega (arith, words_shorter q)

no_list_here : {c : ℕ} {words : List (List ℕ)} {text rest : List ℕ} → c ≡ 40 → Words words (c ∷ text) rest → ⊥
no_list_here e (closed p) = omega arith
no_list_here {c} e (gap h w) = grind (arith, nat_tests)
no_list_here {c} e (remark k w) = omega (arith, comment_octet c k)
no_list_here e (quoted q v w) = omega arith
no_list_here {c} e (run r w) = (run_octet r).2 e

pub no_words_list : {s : List ℕ} → 0 < length s → get_or s 0 0 ≡ 40 → NoWords s
no_words_list l e = rw (opened l refl) (λ v r q. no_list_here e q)

no_words_here : {c : ℕ} {words : List (List ℕ)} {text rest : List ℕ} → c ≡ 34 → NotQuoted text → Words words (c ∷ text) rest → ⊥
no_words_here e n (closed p) = omega arith
no_words_here e n (gap h w) = grind (arith, nat_tests)
no_words_here {c} e n (remark k w) = omega (arith, comment_octet c k)
no_words_here e n (quoted {word} {more} q u w) = n word more u
no_words_here {c} e n (run r w) = (run_octet r).1 e

pub no_words_quoted : {s behind : List ℕ} → 0 < length s → get_or s 0 0 ≡ 34 → behind ≡ drop 1 s → NotQuoted behind → NoWords s
no_words_quoted l e d n = rw (opened l d) (λ v r q. no_words_here e n q)

-- a list has the same words and the same end
pub words_one : {words others : List (List ℕ)} {text rest end : List ℕ} → Words words text rest → Words others text end → (words ≡ others) × (rest ≡ end)
words_one (closed e) q = let x = only_closed e q in (sym x.0, sym x.1)
words_one (gap h w) q = words_one w (only_gap h q)
words_one (remark k w) q = words_one w (only_remark k q)
words_one (quoted {word} e v w) q = let x = only_quoted e v q in same_behind (word ∷ []) x.1 (words_one w x.2)
words_one (run {word} r w) q = let x = only_run r q in same_behind (word ∷ []) x.1 (words_one w x.2)

pub ruleset words_steps = (ends_words, no_words_empty, no_words_list)
