-- A text has at most one first token.
use Rattle.std.proofs.Common.{◌≡◌, ◌≢◌, ℕ, ◌<◌, true, false, cond, not, List, [], ◌∷◌, ◌++◌, length, drop, get_or, refl, sym, ◌∙◌, ap, subst, arith, inl, inr}
use Rattle.std.proofs.lemmas.{List.length-append, List.drop_more, List.drop_all, Bool.Decides.nat_tests}
use Rattle.std.specs.{Cmp.first_so, Prelude.◌==◌}
use Rattle.dns_tokens.specs.Tokens.FirstToken.{blanks, line, remark, at_sign, run, quoted, words}
use Rattle.dns_tokens.specs.Tokens.{TokenValue, Run, LineEnd, Comment, Words, FirstToken, NoToken, HasNoTokens, SkipsComment, Tokens, LineEnd.line_feed}
use Rattle.dns_tokens.specs.Tokens.{TokenValue.blank, TokenValue.at, TokenValue.list, TokenValue.char_data, Comment.comment, LineEnd.both, LineEnd.return}
use Rattle.dns_tokens.specs.{Octets.is_blank, Octets.is_line_end, Octets.ends_run, Octets.Span, Quoted.Quoted}
use Rattle.dns_tokens.proofs.WordSteps.{run_octet, run_shorter, comment_one, words_one, words_shorter}
use Rattle.dns_tokens.proofs.{QuotedSteps.quoted_one, QuotedSteps.quoted_shorter, Firsts.opened, Firsts.ends_octet, TokenSteps.span_one}
use Rattle.dns_tokens.specs.Tokens.{NoToken.ended, NoToken.remark as only_remark, Tokens.none, Tokens.first}

-- by which rule a text is read, told from its first octet
octet_code : ℕ → ℕ
octet_code c = cond (is_blank c) 0 (cond (is_line_end c) 1 (cond (c == 59) 2 (cond (c == 34) 3 (cond (c == 40) 4 (cond (c == 41) 5 6)))))

abbrev head_code : List ℕ → ℕ
head_code text = octet_code (get_or text 0 0)

blank_code : (c : ℕ) → is_blank c ≡ true → octet_code c ≡ 0
unfolding octet_code
blank_code c e = rw e

run_code : (c : ℕ) → (ends_run c ≡ false) × (c ≢ 34) × (c ≢ 40) → octet_code c ≡ 6
unfolding octet_code
run_code c h = grind (arith, nat_tests, h.0, h.1, h.2)

code_line : {text rest : List ℕ} → LineEnd text rest → head_code text ≡ 1
unfolding octet_code
code_line (line_feed e) = rw e refl
code_line (both e f) = rw e refl
code_line (return e b) = rw e refl

code_comment : {text more : List ℕ} → Comment text more → head_code text ≡ 2
unfolding octet_code
code_comment (comment k e s) = rw e refl

-- a line has one end
line_one : {text rest end : List ℕ} → LineEnd text rest → LineEnd text end → rest ≡ end
line_one (line_feed e) (line_feed f) = refl
line_one (line_feed e) (both f g) = absurd (omega arith)
line_one (line_feed e) (return f b) = absurd (omega arith)
line_one (both e f) (line_feed g) = absurd (omega arith)
line_one (both e f) (both g h) = refl
line_one (both {lf} e f) (return g b) = let yes : lf == 10 ≡ true = rw f in absurd (cc)
line_one (return e b) (line_feed g) = absurd (omega arith)
line_one (return e b) (both {lf} g h) = let yes : lf == 10 ≡ true = rw h in absurd (cc)
line_one (return e b) (return g h) = refl

-- the code of the rule by which a token was read
abbrev rule_code : {token : TokenValue} {text rest : List ℕ} → FirstToken token text rest → ℕ
rule_code (blanks f o s) = 0
rule_code (line l) = 1
rule_code (remark k t) = 2
rule_code (quoted q v) = 3
rule_code (words p w) = 4
rule_code (at_sign r) = 6
rule_code (run r n) = 6

rule_first : {token : TokenValue} {text rest : List ℕ} (t : FirstToken token text rest) → head_code text ≡ rule_code t
unfolding octet_code
rule_first {text} (blanks f o s) = blank_code (get_or text 0 0) (ap (λ (x : List ℕ). is_blank (get_or x 0 0)) s.cut ∙ first_so _ _ s.each)
rule_first (line l) = code_line l
rule_first (remark k t) = code_comment k
rule_first (quoted q v) = rw q refl
rule_first (words p w) = rw p refl
rule_first (at_sign r) = run_code _ (run_octet r)
rule_first (run r n) = run_code _ (run_octet r)

-- a text has one first token, and one rest
pub first_one : {token other : TokenValue} {text rest end : List ℕ} → FirstToken token text rest → FirstToken other text end → (token ≡ other) × (rest ≡ end)
first_one (blanks f1 o1 s1) (blanks f2 o2 s2) = (refl, (span_one s1 s2).1)
first_one (line l1) (line l2) = (refl, line_one l1 l2)
first_one {other} {end} (remark k1 t1) (remark k2 t2) = first_one t1 (subst (λ (t : List ℕ). FirstToken other t end) (comment_one k2 k1) t2)
first_one (at_sign r1) (at_sign r2) = (refl, (span_one r1.goes_on r2.goes_on).1)
first_one (at_sign r1) (run r2 n2) = absurd (n2 (sym (span_one r1.goes_on r2.goes_on).0))
first_one (run r1 n1) (at_sign r2) = absurd (n1 (span_one r1.goes_on r2.goes_on).0)
first_one (run r1 n1) (run r2 n2) = let x = span_one r1.goes_on r2.goes_on in (ap char_data x.0, x.1)
first_one (quoted q1 v1) (quoted q2 v2) = let x = quoted_one v1 v2 in (ap char_data x.0, x.1)
first_one (words p1 w1) (words p2 w2) = let x = words_one w1 w2 in (ap list x.0, x.1)
first_one t u = absurd (omega (arith, rule_first t, rule_first u))

-- a token takes something
pub comment_shorter : {text more : List ℕ} → Comment text more → length more < length text
comment_shorter (comment {text} {rest} k e s) = omega (arith, ap length s.cut, length-append k rest)

line_shorter : {text rest : List ℕ} → LineEnd text rest → length rest < length text
line_shorter (line_feed e) = omega arith
line_shorter (both e f) = omega arith
line_shorter (return e b) = omega arith

pub first_shorter : {token : TokenValue} {text rest : List ℕ} → FirstToken token text rest → length rest < length text
first_shorter (blanks {rest} f o s) = omega (arith, ap length s.cut, length-append o rest)
first_shorter (line l) = line_shorter l
first_shorter (remark k t) = omega (arith, comment_shorter k, first_shorter t)
first_shorter (at_sign r) = run_shorter r
first_shorter (run r n) = run_shorter r
first_shorter (quoted q v) = omega (arith, quoted_shorter v)
first_shorter (words p w) = omega (arith, words_shorter w)

-- a text with a first token doesn't end
pub none_or_first : {token : TokenValue} {text rest : List ℕ} → NoToken text → FirstToken token text rest → ⊥
none_or_first ended t = omega (arith, first_shorter t)
none_or_first (only_remark k) (remark j t) = omega (arith, ap length (comment_one k j), first_shorter t)
none_or_first (only_remark k) t = omega (arith, code_comment k, rule_first t)

-- the first token behind a comment, where there is one
pub token_behind : {token : TokenValue} {text more rest : List ℕ} → SkipsComment text more → FirstToken token more rest → FirstToken token text rest
token_behind (inl k) t = remark k t
token_behind (inr e) t = rw (← e.0) t

pub none_left : (text more : List ℕ) → SkipsComment text more → length more ≡ 0 → NoToken text
none_left text [] (inl k) e = only_remark k
none_left text [] (inr f) e = rw (← f.0) ended
none_left text (c ∷ s) k e = absurd (omega arith)

-- what stands behind a comment is no further comment
pub no_comment : {text more : List ℕ} → SkipsComment text more → 0 < length more → get_or more 0 0 ≢ 59
no_comment {more} (inl (comment k e p)) l f =
    let no : not (is_line_end (get_or more 0 0)) ≡ false = ends_octet (λ c. not (is_line_end c)) more p.ends l in
    grind (arith, nat_tests)
no_comment {text} (inr e) l f =
    let no : get_or text 0 0 == 59 ≡ false = ends_octet (λ c. c == 59) text e.1 (omega (arith, ap length e.0)) in
    let same : get_or text 0 0 ≡ 59 = rw (← e.0) f in
    grind (arith, nat_tests)

-- a text that is refused has no tokens
pub tokens_refused : {tokens : List TokenValue} {text : List ℕ} → HasNoTokens text → Tokens tokens text → ⊥
tokens_refused h (none n) = h.goes_on n
tokens_refused h (first t ts) = h.no_token t

-- tokens at a text's beginning
pub blanks_here : (s front rest : List ℕ) → 0 < length s → is_blank (get_or s 0 0) ≡ true → Span is_blank front s rest → FirstToken blank s rest
blanks_here s [] [] l e p = absurd (omega (arith, ap length p.cut))
blanks_here s [] (d ∷ rest) l e p =
    let no : is_blank (get_or s 0 0) ≡ false = ap (λ (x : List ℕ). is_blank (get_or x 0 0)) p.cut ∙ p.ends in
    absurd (cc)
blanks_here s (f ∷ o) rest l e p = blanks f o p

pub words_here : {s behind rest : List ℕ} {within : List (List ℕ)} → 0 < length s → get_or s 0 0 ≡ 40 → behind ≡ drop 1 s → Words within behind rest
    → FirstToken (list within) s rest
words_here l e d w = rw (opened l d) (words e w)

pub quoted_here : {s behind rest word : List ℕ} → 0 < length s → get_or s 0 0 ≡ 34 → behind ≡ drop 1 s → Quoted word behind rest
    → FirstToken (char_data word) s rest
quoted_here l e d w = rw (opened l d) (quoted e w)

-- a word that is `@`, and another one
run_first : {word text rest : List ℕ} → Run word text rest → get_or text 0 0 ≡ get_or word 0 0
run_first {rest} r = ap (λ (x : List ℕ). get_or x 0 0) (r.goes_on.cut ∙ ap (λ (w : List ℕ). w ++ rest) r.is_word)
    ∙ sym (ap (λ (x : List ℕ). get_or x 0 0) r.is_word)

pub at_here : {s word rest : List ℕ} → Run word s rest → length word ≡ 1 → get_or s 0 0 ≡ 64 → FirstToken at s rest
at_here {word} r l g =
    let e : word ≡ 64 ∷ [] = drop_more word 0 0 (omega arith) ∙ ap (λ (c : ℕ). c ∷ drop 1 word) (sym (run_first r) ∙ g)
    ∙ ap (λ (x : List ℕ). 64 ∷ x) (drop_all 1 word (omega arith)) in
    at_sign (rw e at r)

pub other_word : {s word rest : List ℕ} → Run word s rest → (length word ≡ 1 → get_or s 0 0 ≢ 64) → FirstToken (char_data word) s rest
other_word r h = run r (λ e. h (ap length e) (run_first r ∙ ap (λ (x : List ℕ). get_or x 0 0) e))

-- behind the first token stand the others
pub tokens_behind : {token : TokenValue} {tokens : List TokenValue} {text rest : List ℕ} → FirstToken token text rest → Tokens tokens text
    → (others : List TokenValue) × (tokens ≡ token ∷ others) × Tokens others rest
tokens_behind f (none n) = absurd (none_or_first n f)
tokens_behind f (first {tokens} t ts) =
    let x = first_one t f in
    (tokens, ap (λ (k : TokenValue). k ∷ tokens) x.0, subst (λ (r : List ℕ). Tokens tokens r) x.1 ts)

-- a text has at most one list of tokens
pub tokens_one : {tokens others : List TokenValue} {text : List ℕ} → Tokens tokens text → Tokens others text → tokens ≡ others
tokens_one (none n) (none m) = refl
tokens_one (none n) (first t ts) = absurd (none_or_first n t)
tokens_one (first {token} t ts) us = let x = tokens_behind t us in ap (λ (l : List TokenValue). token ∷ l) (tokens_one ts x.2) ∙ sym x.1

pub ruleset token_laws = (tokens_one, first_one, none_or_first, tokens_refused, tokens_behind)

pub ruleset first_token = (token_behind, blanks_here, words_here, quoted_here, line)
