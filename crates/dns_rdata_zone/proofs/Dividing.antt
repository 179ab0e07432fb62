-- A text that was written is divided into its tokens again.
use Rattle.std.proofs.Common.{◌≡◌, ◌≢◌, ℕ, suc, length, get_or, All, ◌+◌, ◌/◌, ◌%◌, ◌<◌, ◌≤◌, Bool, true, false, eqb, ◌&&◌, nat_le, List, []}
use Rattle.std.proofs.Common.{◌∷◌, ◌++◌, Ok, refl, sym, ◌∙◌, ap, append_assoc, arith}
use Rattle.std.specs.{List.AllByRecursion, Prelude.flat_map, Prelude.not, Prelude.codes}
use Rattle.std.proofs.{lemmas.Bool.Decides.nat_tests, lemmas.List.append-nil, lemmas.List.Elements.All-head, lemmas.List.Elements.All-tail}
use Rattle.dns_fields.specs.Octets.{AreOctets}
use Rattle.dns_zone_tokens.specs.{Remaining.with_tokens}
use Rattle.dns_zone_tokens.specs.Tokens.{Token, Spot, is_blank, is_line_end, ends_run, begins_gap, between, run, quotes, tokens_read_from, with_token}
use Rattle.dns_zone_tokens.proofs.RemainingSteps.{tokens_more}
use Rattle.dns_rdata_zone.specs.{Printable.ArePrintable, Names.zone_label, Names.zone_labels, Spellings.escaped, Spellings.three_digits, Spellings.name_octet}
use Rattle.dns_rdata_zone.proofs.Parts.{ByParts, name_octet_by, escaped_by, single_parts, octet_parts, digit_parts, labels_parts}

-- ---- printable texts

printable_both : (a b : List ℕ) → ArePrintable a → ArePrintable b → ArePrintable (a ++ b)
printable_both [] b h k = k
printable_both (c ∷ a) b h k = (h.0, printable_both a b h.1 k)

pub blank_printable : (b : List ℕ) → ArePrintable b → ArePrintable (32 ∷ b)
blank_printable b h = ((omega arith, omega arith), h)

quote_printable : (b : List ℕ) → ArePrintable b → ArePrintable (34 ∷ b)
quote_printable b h = ((omega arith, omega arith), h)

digits_printable : (c : ℕ) → c < 256 → ArePrintable (three_digits c)
digits_printable c h = (
  (omega arith, omega arith),
  ((omega arith, omega arith), ((omega arith, omega arith), ((omega arith, omega arith), tt))),
)

printable_parts : ByParts ArePrintable
printable_parts = record { none = tt; both = printable_both }

graphic_printable : (c low : ℕ) → 32 ≤ low → nat_le low c && nat_le c 126 ≡ true → ArePrintable (c ∷ [])
graphic_printable c low h e = ((grind (arith, nat_tests), grind (arith, nat_tests)), tt)

name_octet_printable : (c : ℕ) → c < 256 → ArePrintable (name_octet c)
name_octet_printable c h = name_octet_by ArePrintable c (λ e. ((omega arith, omega arith), ((grind (arith, nat_tests), grind (arith, nat_tests)), tt)))
    (λ e. graphic_printable c 33 (omega arith)) (digits_printable c h)

escaped_printable : (c : ℕ) → c < 256 → ArePrintable (escaped c)
escaped_printable c h = escaped_by ArePrintable c (λ e. ((omega arith, omega arith), ((grind (arith, nat_tests), grind (arith, nat_tests)), tt)))
    (λ e. graphic_printable c 32 (omega arith)) (digits_printable c h)

-- ---- texts that are divided

-- The text is divided into these tokens, before a blank and what follows it, and at the end. It is printable.
pub record AreDivided (text : List ℕ) (tokens : List Token) : Type 0 where
  pub then : (rest : List ℕ) → tokens_read_from (between 0 false) (text ++ 32 ∷ rest) ≡ with_tokens tokens (tokens_read_from (between 0 false) rest)
  pub last : tokens_read_from (between 0 false) text ≡ Ok tokens
  pub printable : ArePrintable text

-- a token without quotes, after a blank
abbrev pub bare_token : List ℕ → Token
bare_token s = record { octets = s; quoted = false; joined = false }

-- a token in quotes, after a blank or directly after another token
abbrev pub quoted_token : Bool → List ℕ → Token
quoted_token joined s = record { octets = s; quoted = true; joined = joined }

-- ---- lists of tokens

tokens_all : (a b : List Token) → with_tokens a (Ok b) ≡ Ok (a ++ b)
tokens_all [] b = refl
tokens_all (w ∷ a) b = ap (with_token w) (tokens_all a b)

-- two texts with a blank between
pub divided_then : {a b : List ℕ} {ws vs : List Token} → AreDivided a ws → AreDivided b vs → AreDivided (a ++ 32 ∷ b) (ws ++ vs)
divided_then {a = a} {b = b} {ws = ws} {vs = vs} h k = record {
  then = λ rest.
      ap (tokens_read_from (between 0 false)) (append_assoc a (32 ∷ b) (32 ∷ rest))
      ∙ h.then (b ++ 32 ∷ rest)
      ∙ ap (with_tokens ws) (k.then rest)
      ∙ sym (tokens_more ws vs (tokens_read_from (between 0 false) rest));
  last = h.then b ∙ ap (with_tokens ws) k.last ∙ tokens_all ws vs;
  printable = printable_both a (32 ∷ b) h.printable (blank_printable b k.printable);
}

-- ---- tokens that go on

-- the token goes on with the octets
abbrev pub TakesOn : (List ℕ → Spot) → List ℕ → Type 0
TakesOn at s = (front rest : List ℕ) → tokens_read_from (at front) (s ++ rest) ≡ tokens_read_from (at (front ++ s)) rest

takes_parts : (at : List ℕ → Spot) → ByParts (TakesOn at)
takes_parts at = record {
  none = λ front rest. ap (λ (f : List ℕ). tokens_read_from (at f) rest) (sym (append-nil front));
  both = λ a b h k front rest.
      ap (tokens_read_from (at front)) (append_assoc a b rest) ∙ h front (b ++ rest) ∙ k (front ++ a) rest
      ∙ ap (λ (f : List ℕ). tokens_read_from (at f) rest) (append_assoc front a b);
}

-- ---- a token without quotes

abbrev pub InRun : List ℕ → Type 0
InRun = TakesOn (run 0 false)

run_parts : ByParts InRun
run_parts = takes_parts (run 0 false)

-- the octets begin one
abbrev pub BeginsRun : List ℕ → Type 0
BeginsRun s = (rest : List ℕ) → tokens_read_from (between 0 false) (s ++ rest) ≡ tokens_read_from (run 0 false s) rest

-- a graphic octet that needs no escape in a token without quotes
abbrev pub is_run_octet : ℕ → Bool
is_run_octet c = nat_le 33 c && (nat_le c 126 && (not (ends_run c) && not (eqb c 92)))

begins_append : (a b : List ℕ) → BeginsRun a → InRun b → BeginsRun (a ++ b)
begins_append a b h k rest = ap (tokens_read_from (between 0 false)) (append_assoc a b rest) ∙ h (b ++ rest) ∙ k a rest

-- an octet that needs no escape
run_one : (c : ℕ) → ends_run c ≡ false → eqb c 92 ≡ false → InRun (c ∷ [])
run_one c h k front rest = rw (h, k) refl

-- one after a `\`
run_two : (c : ℕ) → is_line_end c ≡ false → InRun (92 ∷ c ∷ [])
run_two c h front rest = rw h (ap (λ (f : List ℕ). tokens_read_from (run 0 false f) rest) (append_assoc front (92 ∷ []) (c ∷ [])))

run_digit : (d : ℕ) → d < 10 → InRun ((48 + d) ∷ [])
run_digit d h = run_one (48 + d) (grind (arith, nat_tests)) (grind (arith, nat_tests))

begins_by : (c : ℕ) → is_blank c ≡ false → is_line_end c ≡ false → eqb c 59 ≡ false → eqb c 40 ≡ false → eqb c 41 ≡ false → eqb c 34 ≡ false
    → eqb c 92 ≡ false → BeginsRun (c ∷ [])
begins_by c b l s o p h k rest = rw (b, l, s, o, p, h, k) refl

begins_one : (c : ℕ) → begins_gap c ≡ false → eqb c 34 ≡ false → eqb c 92 ≡ false → BeginsRun (c ∷ [])
begins_one c g h k = begins_by c (grind (arith, nat_tests)) (grind (arith, nat_tests)) (grind (arith, nat_tests)) (grind (arith, nat_tests))
    (grind (arith, nat_tests)) h k

begins_two : (c : ℕ) → is_line_end c ≡ false → BeginsRun (92 ∷ c ∷ [])
begins_two c h rest = rw h refl

begins_digits : (c : ℕ) → c < 256 → BeginsRun (three_digits c)
begins_digits c h =
    let first : BeginsRun (92 ∷ (48 + c / 100) ∷ []) = begins_two (48 + c / 100) (grind (arith, nat_tests)) in
    begins_append (92 ∷ (48 + c / 100) ∷ []) _ first
    (run_parts.both ((48 + c / 10 % 10) ∷ []) _ (run_digit (c / 10 % 10) (omega arith)) (run_digit (c % 10) (omega arith)))

-- `\#`
pub mark_begins : BeginsRun (92 ∷ 35 ∷ [])
mark_begins = begins_two 35 refl

-- a text that begins a token, and goes on in it to its end, is that token
pub bare_divided : (s : List ℕ) → BeginsRun s → ArePrintable s → AreDivided s (bare_token s ∷ [])
bare_divided s h k = record {
  then = λ rest. h (32 ∷ rest);
  last = ap (tokens_read_from (between 0 false)) (sym (append-nil s)) ∙ h [];
  printable = k;
}

-- octets that need no escape
abbrev pub AreRunOctets : List ℕ → Type 0
AreRunOctets s = AllByRecursion (λ c. is_run_octet c ≡ true) s

pub run_not : (c : ℕ) → is_run_octet c ≡ true → c ≢ 92
run_not c h = λ e. absurd (grind (arith, nat_tests))

pub run_by_index : (s : List ℕ) → ((k : ℕ) → k < length s → is_run_octet (get_or s k 0) ≡ true) → AreRunOctets s
run_by_index [] h = tt
run_by_index (c ∷ s) h = (h 0 (omega arith), run_by_index s (λ k lt. h (suc k) (omega arith)))

pub run_all : (P : ℕ → Type 0) → ((c : ℕ) → P c → is_run_octet c ≡ true) → (s : List ℕ) → All P s → AreRunOctets s
run_all P f [] h = tt
run_all P f (c ∷ s) h = (f c (All-head P c s h), run_all P f s (All-tail P c s h))

pub run_both : (a b : List ℕ) → AreRunOctets a → AreRunOctets b → AreRunOctets (a ++ b)
run_both [] b h k = k
run_both (c ∷ a) b h k = (h.0, run_both a b h.1 k)

pub run_is : (c : ℕ) → is_run_octet c ≡ true → InRun (c ∷ [])
run_is c h = run_one c (grind (arith, nat_tests)) (grind (arith, nat_tests))

pub begins_is : (c : ℕ) → is_run_octet c ≡ true → BeginsRun (c ∷ [])
begins_is c h = begins_one c (grind (arith, nat_tests)) (grind (arith, nat_tests)) (grind (arith, nat_tests))

pub begins_plain : (s : List ℕ) → s ≢ [] → AreRunOctets s → BeginsRun s
begins_plain [] some h = absurd (some refl)
begins_plain (c ∷ s) some h = begins_append (c ∷ []) s (begins_is c h.0) (single_parts run_parts run_is s h.1)

pub one_printable : (c : ℕ) → is_run_octet c ≡ true → (32 ≤ c) × (c ≤ 126)
one_printable c h = (grind (arith, nat_tests), grind (arith, nat_tests))

pub run_printable : (s : List ℕ) → AreRunOctets s → ArePrintable s
run_printable s h = single_parts printable_parts (λ c is. (one_printable c is, tt)) s h

pub plain_divided : (s : List ℕ) → s ≢ [] → AreRunOctets s → AreDivided s (bare_token s ∷ [])
plain_divided s some h = bare_divided s (begins_plain s some h) (run_printable s h)

-- ---- labels

name_octet_run : (c : ℕ) → c < 256 → InRun (name_octet c)
name_octet_run c h = name_octet_by InRun c (λ e. run_two c (grind (arith, nat_tests)))
    (λ e f. run_one c (grind (arith, nat_tests)) (grind (arith, nat_tests)))
    (digit_parts run_parts c h (run_two (48 + c / 100) (grind (arith, nat_tests))) run_digit)

name_octet_begins : (c : ℕ) → c < 256 → BeginsRun (name_octet c)
name_octet_begins c h = name_octet_by BeginsRun c (λ e. begins_two c (grind (arith, nat_tests)))
    (λ e f. begins_one c (grind (arith, nat_tests)) (grind (arith, nat_tests)) (grind (arith, nat_tests))) (begins_digits c h)

label_begins : (s : List ℕ) → s ≢ [] → AreOctets s → BeginsRun (zone_label s)
label_begins [] some h = absurd (some refl)
label_begins (c ∷ s) some h = begins_append (name_octet c ++ flat_map name_octet s) (codes ".")
    (begins_append (name_octet c) (flat_map name_octet s) (name_octet_begins c (All-head (λ x. x < 256) c s h))
    (octet_parts run_parts name_octet name_octet_run s (All-tail (λ x. x < 256) c s h)))
    (run_one 46 refl refl)

-- no label is empty
abbrev pub NoneEmpty : List (List ℕ) → Type 0
NoneEmpty [] = Unit {0}
NoneEmpty (l ∷ ls) = (l ≢ []) × NoneEmpty ls

pub name_divided : (ls : List (List ℕ)) → AllByRecursion AreOctets ls → NoneEmpty ls → AreDivided (zone_labels ls) (bare_token (zone_labels ls) ∷ [])
name_divided [] h k = bare_divided (codes ".") (begins_one 46 refl refl refl) ((omega arith, omega arith), tt)
name_divided (l ∷ ls) h k = bare_divided (zone_label l ++ flat_map zone_label ls)
    (begins_append (zone_label l) (flat_map zone_label ls) (label_begins l k.0 h.0)
    (labels_parts run_parts name_octet_run (run_one 46 refl refl) ls h.1))
    (labels_parts printable_parts name_octet_printable ((omega arith, omega arith), tt) (l ∷ ls) h)

-- ---- a token in quotes

abbrev TakenOn : Bool → List ℕ → Type 0
TakenOn joined = TakesOn (quotes 0 joined)

quotes_parts : (joined : Bool) → ByParts (TakenOn joined)
quotes_parts joined = takes_parts (quotes 0 joined)

quotes_one : (joined : Bool) (c : ℕ) → eqb c 34 ≡ false → eqb c 10 ≡ false → eqb c 92 ≡ false → TakenOn joined (c ∷ [])
quotes_one joined c h k e front rest = rw (h, k, e) refl

quotes_two : (joined : Bool) (c : ℕ) → TakenOn joined (92 ∷ c ∷ [])
quotes_two joined c front rest = ap (λ (f : List ℕ). tokens_read_from (quotes 0 joined f) rest) (append_assoc front (92 ∷ []) (c ∷ []))

escaped_quotes : (joined : Bool) (c : ℕ) → c < 256 → TakenOn joined (escaped c)
escaped_quotes joined c h = escaped_by (TakenOn joined) c (λ e. quotes_two joined c)
    (λ e f. quotes_one joined c (grind (arith, nat_tests)) (grind (arith, nat_tests)) (grind (arith, nat_tests)))
    (digit_parts (quotes_parts joined) c h (quotes_two joined (48 + c / 100))
    (λ d l. quotes_one joined (48 + d) (grind (arith, nat_tests)) (grind (arith, nat_tests)) (grind (arith, nat_tests))))

-- printable octets that are taken on within quotes
pub record InQuotes (s : List ℕ) : Type 0 where
  pub taken : (joined : Bool) → TakenOn joined s
  pub printable : ArePrintable s

pub spelled_quotes : (s : List ℕ) → AreOctets s → InQuotes (flat_map escaped s)
spelled_quotes s h = record {
  taken = λ joined. octet_parts (quotes_parts joined) escaped (escaped_quotes joined) s h;
  printable = octet_parts printable_parts escaped escaped_printable s h;
}

pub plain_quotes : (s : List ℕ) → AreRunOctets s → InQuotes s
plain_quotes s h = record {
  taken = λ joined. single_parts (quotes_parts joined)
      (λ c is. quotes_one joined c (grind (arith, nat_tests)) (grind (arith, nat_tests)) (grind (arith, nat_tests))) s h;
  printable = run_printable s h;
}

enclosed_printable : (s : List ℕ) → ArePrintable s → ArePrintable (34 ∷ (s ++ 34 ∷ []))
enclosed_printable s h = quote_printable (s ++ 34 ∷ []) (printable_both s (34 ∷ []) h (quote_printable [] tt))

-- what is in quotes is a token
pub quoted_divided : (s : List ℕ) → InQuotes s → AreDivided (34 ∷ (s ++ 34 ∷ [])) (quoted_token false s ∷ [])
quoted_divided s h = record {
  then = λ rest.
      ap (tokens_read_from (quotes 0 false [])) (append_assoc s (34 ∷ []) (32 ∷ rest))
      ∙ h.taken false [] (34 ∷ 32 ∷ rest);
  last = h.taken false [] (34 ∷ []);
  printable = enclosed_printable s h.printable;
}

-- and so it is directly after a token without quotes
pub joined_divided : (key s : List ℕ) → BeginsRun key → ArePrintable key → InQuotes s
    → AreDivided (key ++ 34 ∷ (s ++ 34 ∷ [])) (bare_token key ∷ quoted_token true s ∷ [])
joined_divided key s b p h = record {
  then = λ rest.
      ap (tokens_read_from (between 0 false)) (append_assoc key (34 ∷ (s ++ 34 ∷ [])) (32 ∷ rest))
      ∙ b (34 ∷ ((s ++ 34 ∷ []) ++ 32 ∷ rest))
      ∙ ap (λ (t : List ℕ). with_token (bare_token key) (tokens_read_from (quotes 0 true []) t)) (append_assoc s (34 ∷ []) (32 ∷ rest))
      ∙ ap (with_token (bare_token key)) (h.taken true [] (34 ∷ 32 ∷ rest));
  last = b (34 ∷ (s ++ 34 ∷ [])) ∙ ap (with_token (bare_token key)) (h.taken true [] (34 ∷ []));
  printable = printable_both key (34 ∷ (s ++ 34 ∷ [])) p (enclosed_printable s h.printable);
}
