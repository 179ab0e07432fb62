-- The steps by which text in quotes is read.
use Rattle.std.proofs.{lemmas.Bool.Decides.nat_tests, lemmas.Str.encode_ascii, Common.append-nil}
use Rattle.std.proofs.Common.{◌≡◌, true, ℕ, ◌<◌, ◌≤◌, false, not, List, [], ◌∷◌, ◌++◌, length, drop, get_or, Option, Some, None, refl, sym, subst, arith}
use Rattle.std.specs.{Cmp.first_so, Cmp.second_so, Char.encode_utf8}
use Rattle.dns_tokens.specs.{Quoted.Quoted, Quoted.NotQuoted, Quoted.First, Quoted.IsDigit, Quoted.octets_of, Quoted.of_digits, Octets.is_special, Octets.AllOf}
use Rattle.dns_tokens.specs.{Quoted.Quoted.closed, Quoted.Quoted.plain, Quoted.Quoted.decimal, Quoted.Quoted.escaped, Octets.Span}
use Rattle.dns_tokens.proofs.Firsts.{opened, first_none, first_both, first_ends, first_refused, same_behind}

special_slash : (c : ℕ) → c ≡ 92 → is_special c ≡ false → ⊥
special_slash c e f = grind (arith, nat_tests)

special_quote : (c : ℕ) → c ≡ 34 → is_special c ≡ false → ⊥
special_quote c e f = grind (arith, nat_tests)

-- a character that stands for itself
only_plain : {c : ℕ} {text value rest : List ℕ} → is_special c ≡ false → Quoted value (c ∷ text) rest
    → (later : List ℕ) × (value ≡ c ∷ later) × Quoted later text rest
only_plain {c} e (closed q) = absurd (special_quote c q e)
only_plain e (plain {value} h q) = (value, refl, q)
only_plain {c} e (decimal s h t o n q w) = absurd (special_slash c s e)
only_plain {c} e (escaped s n q) = absurd (special_slash c s e)

pub gives_plain : (c : ℕ) (text : List ℕ) → is_special c ≡ false → First Quoted (c ∷ []) (c ∷ text) text
gives_plain c text e = record { gives = λ v r q. plain e q; only = λ v r q. only_plain e q }

pub gives_run : {front text rest : List ℕ} → Span (λ c. not (is_special c)) front text rest → First Quoted front text rest
gives_run {front} {rest} s = rw s.cut (by front s.each)
  where
    by : (f : List ℕ) → AllOf (λ c. not (is_special c)) f → First Quoted f (f ++ rest) rest
    by [] h = first_none rest
    by (c ∷ f) h =
        let yes : not (is_special c) ≡ true = first_so _ _ h in
        let e : is_special c ≡ false = grind (arith, nat_tests) in
        first_both (gives_plain c (f ++ rest) e) (by f (second_so (not (is_special c)) _ h))

-- `\` and three digits
only_decimal : {slash h t o : ℕ} {text value rest : List ℕ} → slash ≡ 92 → IsDigit h → Quoted value (slash ∷ h ∷ t ∷ o ∷ text) rest
    → (later : List ℕ) × (value ≡ encode_utf8 (of_digits h t o) ++ later) × Quoted later text rest
only_decimal {slash} e d (closed q) = absurd (omega arith)
only_decimal {slash} e d (plain h q) = absurd (special_slash slash e h)
only_decimal e d (decimal {value} s h t o n q w) = (value, w, q)
only_decimal e d (escaped s n q) = absurd (omega arith)

pub gives_decimal : (slash h t o : ℕ) (text : List ℕ) → slash ≡ 92 → IsDigit h → IsDigit t → IsDigit o → of_digits h t o ≤ 255
    → First Quoted (encode_utf8 (of_digits h t o)) (slash ∷ h ∷ t ∷ o ∷ text) text
gives_decimal slash h t o text e a b c n = record { gives = λ v r q. decimal e a b c n q refl; only = λ v r q. only_decimal e a q }

-- `\` and a character that is no digit
only_escaped : {slash c : ℕ} {text value rest : List ℕ} → slash ≡ 92 → (48 ≤ c → 57 < c) → Quoted value (slash ∷ c ∷ text) rest
    → (later : List ℕ) × (value ≡ c ∷ later) × Quoted later text rest
only_escaped e d (closed q) = absurd (omega arith)
only_escaped {slash} e d (plain h q) = absurd (special_slash slash e h)
only_escaped e d (decimal s h t o n q w) = absurd (omega arith)
only_escaped e d (escaped {value} s n q) = (value, refl, q)

pub gives_escaped : (slash c : ℕ) (text : List ℕ) → slash ≡ 92 → (48 ≤ c → 57 < c) → First Quoted (c ∷ []) (slash ∷ c ∷ text) text
gives_escaped slash c text e n = record { gives = λ v r q. escaped e n q; only = λ v r q. only_escaped e n q }

high_plain : (c : ℕ) → 128 ≤ c → is_special c ≡ false
high_plain c h = grind (arith, nat_tests)

-- a `\` in front of what is not ASCII changes nothing
pub gives_high : (slash c : ℕ) (text : List ℕ) → slash ≡ 92 → 128 ≤ c → First Quoted [] (slash ∷ c ∷ text) (c ∷ text)
gives_high slash c text e h = record {
  gives = λ v r q. let x = only_plain (high_plain c h) q in subst (λ (l : List ℕ). Quoted l (slash ∷ c ∷ text) r) (sym x.1) (escaped e (λ _. omega arith) x.2);
  only = λ v r q. let x = only_escaped e (λ _. omega arith) q in
      (v, refl, subst (λ (l : List ℕ). Quoted l (c ∷ text) r) (sym x.1) (plain (high_plain c h) x.2));
}

-- the escapes at a text's beginning
pub escape_ascii : (s t : List ℕ) (c : ℕ) → 2 ≤ length s → get_or s 0 0 ≡ 92 → c ≡ get_or s 1 0 → (48 ≤ c → 57 < c) → c < 128 → t ≡ drop 2 s
    → First Quoted (encode_utf8 c) s t
escape_ascii (x ∷ y ∷ s) t c l e i n low d = rw (encode_ascii c low, d, ← i) (gives_escaped x c s e n)
escape_ascii s t c l e i n low d = absurd (omega arith)

pub escape_high : (s t : List ℕ) → 2 ≤ length s → get_or s 0 0 ≡ 92 → 128 ≤ get_or s 1 0 → t ≡ drop 1 s → First Quoted [] s t
escape_high (x ∷ c ∷ s) t l e h d = rw d (gives_high x c s e h)
escape_high s t l e h d = absurd (omega arith)

of_four : (x h t o n : ℕ) (s r : List ℕ) → x ≡ 92 → IsDigit h → IsDigit t → IsDigit o → n ≡ of_digits h t o → n ≤ 255 → r ≡ s
    → First Quoted (encode_utf8 n) (x ∷ h ∷ t ∷ o ∷ s) r
of_four x h t o n s r e a b c i le d = rw (d, i) (gives_decimal x h t o s e a b c (omega arith))

pub escape_decimal : (s r : List ℕ) (h t o n : ℕ) → 4 ≤ length s → get_or s 0 0 ≡ 92 → h ≡ get_or s 1 0 → t ≡ get_or s 2 0 → o ≡ get_or s 3 0 → IsDigit h
    → IsDigit t → IsDigit o → n ≡ of_digits h t o → n ≤ 255 → r ≡ drop 4 s → First Quoted (encode_utf8 n) s r
escape_decimal (w ∷ x ∷ y ∷ z ∷ s) r h t o n l e ih it io a b c i le d = rw (← ih, ← it, ← io) (of_four w h t o n s r e a b c i le d)
escape_decimal s r h t o n l e ih it io a b c i le d = absurd (omega arith)

-- what ends the quotes
pub quoted_shorter : {value text rest : List ℕ} → Quoted value text rest → length rest < length text
quoted_shorter (closed q) = omega arith
quoted_shorter (plain e q) = omega (arith, quoted_shorter q)
quoted_shorter (decimal s h t o n q w) = omega (arith, quoted_shorter q)
quoted_shorter (escaped s n q) = omega (arith, quoted_shorter q)

none_empty : (s : List ℕ) → length s ≡ 0 → NotQuoted s
none_empty s e = λ v r q. omega (arith, quoted_shorter q)

module _ {front text rest plain more : List ℕ} (g : First Quoted front text rest) (s : Span (λ c. not (is_special c)) plain rest more) where
  pub quoted_unclosed : length more ≡ 0 → NotQuoted text
  quoted_unclosed e = first_refused (first_both g (gives_run s)) (none_empty more e)

  pub quoted_refused : NotQuoted more → NotQuoted text
  quoted_refused n = first_refused (first_both g (gives_run s)) n

  pub quoted_ends : {c : ℕ} {whole end : List ℕ} → whole ≡ front ++ plain → c ≡ get_or more 0 0 → end ≡ drop 1 more → c ≡ 34 → 0 < length more
      → Quoted whole text end
  quoted_ends w i d e l =
      let quote : get_or more 0 0 ≡ 34 = omega arith in
      rw w (first_ends (first_both g (gives_run s)) (rw (opened l d) (closed quote)))

  pub ends_shorter : {c : ℕ} {end : List ℕ} → c ≡ get_or more 0 0 → end ≡ drop 1 more → c ≡ 34 → 0 < length more → length end < length text
  ends_shorter i d e l = quoted_shorter (quoted_ends refl i d e l)

  pub quoted_none : {word later : List ℕ} {o : Option ℕ} → word ≡ front ++ plain → First Quoted (octets_of o) more later → o ≡ None
      → First Quoted word text later
  quoted_none w h e =
      let step = first_both (first_both g (gives_run s)) (rw e at h) in
      rw w (rw append-nil at step)

  pub quoted_character : {word whole later : List ℕ} {o : Option ℕ} {c : ℕ} → word ≡ front ++ plain → First Quoted (octets_of o) more later → o ≡ Some c
      → whole ≡ word ++ encode_utf8 c → First Quoted whole text later
  quoted_character w h e f = rw (f, w) (first_both (first_both g (gives_run s)) (rw e at h))

pub unclosed_here : {text plain more : List ℕ} → Span (λ c. not (is_special c)) plain text more → length more ≡ 0 → NotQuoted text
unclosed_here {text} s e = quoted_unclosed (first_none text) s e

pub ends_here : {text plain more end : List ℕ} {c : ℕ} → Span (λ c. not (is_special c)) plain text more → c ≡ get_or more 0 0 → end ≡ drop 1 more → c ≡ 34
    → 0 < length more → Quoted plain text end
ends_here {text} s i d e l = quoted_ends (first_none text) s refl i d e l

pub ruleset quotes = (quoted_unclosed, quoted_refused, quoted_ends, quoted_none, quoted_character, unclosed_here, ends_here, ends_shorter, quoted_shorter)

only_closed : {quote : ℕ} {text value rest : List ℕ} → quote ≡ 34 → Quoted value (quote ∷ text) rest → (value ≡ []) × (rest ≡ text)
only_closed e (closed q) = (refl, refl)
only_closed {quote} e (plain h q) = absurd (special_quote quote e h)
only_closed e (decimal s h t o n q w) = absurd (omega arith)
only_closed e (escaped s n q) = absurd (omega arith)

-- quotes have one text and one end
pub quoted_one : {value other text rest end : List ℕ} → Quoted value text rest → Quoted other text end → (value ≡ other) × (rest ≡ end)
quoted_one (closed e) q = let x = only_closed e q in (sym x.0, sym x.1)
quoted_one (plain {c} e p) q = let x = only_plain e q in same_behind (c ∷ []) x.1 (quoted_one p x.2)
quoted_one (decimal {h} {t} {o} e a b c n p w) q =
    let x = only_decimal e a q in
    rw w (same_behind (encode_utf8 (of_digits h t o)) x.1 (quoted_one p x.2))
quoted_one (escaped {c} e n p) q = let x = only_escaped e n q in same_behind (c ∷ []) x.1 (quoted_one p x.2)
