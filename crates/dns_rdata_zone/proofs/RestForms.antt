-- Fields that take all remaining tokens, written and read back: hexadecimal, base64, strings and types.
use Rattle.std.proofs.Common.{◌≡◌, ◌≢◌, ℕ, suc, ◌+◌, ◌*◌, ◌/◌, ◌%◌, ◌^◌, ◌<◌, true, false, List, [], ◌∷◌, ◌++◌, length, zero, replicate, rules, decimal, codes}
use Rattle.std.proofs.{lemmas.List.append-nil, lemmas.List.Elements.All-head, lemmas.List.Elements.All-tail}
use Rattle.std.proofs.lemmas.Fmt.{decimal_is_IsNumeral, length-decimal-le}
use Rattle.std.proofs.Common.{inl, inr, lit<, Option, Ok, refl, sym, ◌∙◌, ap, subst, append_assoc, arith}
use Rattle.std.specs.{Str.Parse.digits_value, List.AllByRecursion, List.list_all, Prelude.flat_map, Prelude.slice_index}
use Rattle.dns_fields.specs.{Tlvs.string as string_octets, Labels.DomainName, Octets.AreOctets, Bitmaps.block, Bitmaps.minimal}
use Rattle.dns_types.specs.{RecordTypes.number_of, RecordTypes.record_type_of, RecordTypes.IsTypeText, declared.record_type.RecordType.RecordType}
use Rattle.dns_types.specs.declared.record_type.RecordType.TheVariants.{ZERO, ANAME, Unknown}
use Rattle.dns_types.proofs.RecordTypeLaws.{number_of-record_type_of}
use Rattle.dns_zone_tokens.specs.{Tokens.Token, Remaining.AreStrings, Remaining.AreHex, Remaining.AreBase64, Remaining.joined}
use Rattle.hex.specs.Hex.{encode_with, encode_lower, lower_digits, decode_of as hex_of, decode_pairs}
use Rattle.hex.proofs.HexLemmas.{decode_of-encode_lower}
use Rattle.base64.specs.{Engines.standard, Rfc4648.encode_symbols, Rfc4648.padding_len, GeneralPurpose.encode_of, GeneralPurpose.decode_of as base64_of}
use Rattle.base64.proofs.EngineFacts.{decode_of-encode_of}
use Rattle.dns_zone_rows.specs.Rows.{IsTypeNumber, AreTypes, FieldKind, RestKind, SomeStrings, SomeHex, SomeBase64, AnyTypes, RestGives}
use Rattle.dns_rdata_zone.specs.{Tokens.in_tokens, Readable.IsString, Records.zone_type, Spellings.escaped, ZoneGives.AreUnmarked}
use Rattle.dns_rdata_zone.specs.Strings.{quoted, spaced}
use Rattle.dns_rdata_zone.proofs.Dividing.{AreDivided, divided_then, bare_token, quoted_token, is_run_octet, plain_divided, AreRunOctets, run_not, run_both}
use Rattle.dns_rdata_zone.proofs.{Parts.octets_each, TokenForms.text_form, Letters.first_true, Letters.second_true}
use Rattle.dns_rdata_zone.proofs.Dividing.{quoted_divided, spelled_quotes}
use Rattle.dns_rdata_zone.proofs.TokenTokens.{digit_tokens, split_tokens, tokens_divided, tokens_bare, tokens_joined}
use Rattle.dns_rdata_zone.proofs.RowForms.{FieldText, RowText, bare_unmarked, bytes_of, decimal_run, quoted_unmarked, row_last, row_text, row_then, run_first}

-- ---- fields that take all remaining tokens

-- a text of tokens that give these octets
pub record RestText (rest : RestKind) (text octets : List ℕ) : Type 0 where
  pub tokens : List Token
  pub divided : AreDivided text tokens
  pub gives : RestGives rest octets tokens
  pub unmarked : AreUnmarked tokens

pub row_rest : {origin : Option DomainName} {rest : RestKind} {a x : List ℕ} → RestText rest a x → RowText origin [] rest a x
row_rest h = record { tokens = h.tokens; divided = h.divided; gives = h.gives; unmarked = h.unmarked }

table_run : (t : List ℕ) (k : ℕ) → list_all is_run_octet t ≡ true → k < length t → is_run_octet (slice_index t k) ≡ true
table_run [] k h lt = absurd (omega arith)
table_run (c ∷ t) zero h lt = first_true (is_run_octet c) (list_all is_run_octet t) h
table_run (c ∷ t) (suc k) h lt = table_run t k (second_true (is_run_octet c) (list_all is_run_octet t) h) (omega arith)

hex_digit_run : (k : ℕ) → k < 16 → is_run_octet (slice_index lower_digits k) ≡ true
hex_digit_run k h = let sixteen : length lower_digits ≡ 16 = refl in table_run lower_digits k refl (omega (arith, sixteen))

pub hex_run : (s : List ℕ) → AreOctets s → AreRunOctets (encode_lower s)
unfolding encode_with
hex_run [] h = tt
hex_run (b ∷ s) h =
    let low : b < 256 = All-head (λ x. x < 256) b s h in
    (hex_digit_run (b / 16) (omega arith), (hex_digit_run (b % 16) (omega arith), hex_run s (All-tail (λ x. x < 256) b s h)))

pub hex_some : (s : List ℕ) → s ≢ [] → encode_lower s ≢ []
unfolding encode_with
hex_some [] h = absurd (h refl)
hex_some (b ∷ s) h = λ e. absurd (cc e)

pub hex_none : hex_of [] ≡ Ok []
unfolding decode_pairs
hex_none = refl

pub hex_form : (s : List ℕ) → AreOctets s → AreHex s (digit_tokens (encode_lower s))
hex_form s h = record { bare = tokens_bare (encode_lower s); digits = ap hex_of (tokens_joined (encode_lower s)) ∙ decode_of-encode_lower s (bytes_of s h) }

-- digits in tokens do not begin the unknown-data form
digits_unmarked : (s : List ℕ) → s ≢ [] → AreRunOctets s → AreUnmarked (digit_tokens s)
digits_unmarked [] some h = absurd (some refl)
digits_unmarked (c ∷ s) some h = split_unmarked 1019 c [] s (run_not c h.0) where
  split_unmarked : (left c : ℕ) (front s : List ℕ) → c ≢ 92 → AreUnmarked (split_tokens left (c ∷ front) s)
  split_unmarked left c front [] other = bare_unmarked (c ∷ front) other
  split_unmarked zero c front (d ∷ s) other = bare_unmarked (c ∷ front) other
  split_unmarked (suc left) c front (d ∷ s) other = split_unmarked left c (front ++ d ∷ []) s other

digits_there : (s : List ℕ) → s ≢ [] → digit_tokens s ≢ []
digits_there s some e = some (sym (tokens_joined s) ∙ ap joined e)

pub hex_text : (s : List ℕ) → s ≢ [] → AreOctets s → RestText SomeHex (in_tokens (encode_lower s)) s
hex_text s some h = record {
  tokens = digit_tokens (encode_lower s);
  divided = tokens_divided (encode_lower s) (hex_some s some) (hex_run s h);
  gives = (digits_there (encode_lower s) (hex_some s some), hex_form s h);
  unmarked = digits_unmarked (encode_lower s) (hex_some s some) (hex_run s h);
}

-- ---- base64

abbrev symbols : List ℕ
symbols = standard.encode_table

symbol_run : (k : ℕ) → k < 64 → is_run_octet (slice_index symbols k) ≡ true
symbol_run k h = let sixty_four : length symbols ≡ 64 = refl in table_run symbols k refl (omega (arith, sixty_four))

padding_run : (n : ℕ) → AreRunOctets (replicate n 61)
padding_run zero = tt
padding_run (suc n) = (refl, padding_run n)

symbols_run : (s : List ℕ) → AllByRecursion (λ x. x < 256) s → AreRunOctets (encode_symbols symbols s)
unfolding encode_symbols
symbols_run [] h = tt
symbols_run (a ∷ []) h = let low = h.0 in (symbol_run (a / 4) (omega arith), (symbol_run (a % 4 * 16) (omega arith), tt))
symbols_run (a ∷ b ∷ []) h =
    let low = h.0 in
    let next = h.1.0 in
    (symbol_run (a / 4) (omega arith), (symbol_run (a % 4 * 16 + b / 16) (omega arith), (symbol_run (b % 16 * 4) (omega arith), tt)))
symbols_run (a ∷ b ∷ c ∷ rest) h =
    let low = h.0 in
    let next = h.1.0 in
    let third = h.1.1.0 in (
      symbol_run (a / 4) (omega arith),
      (
        symbol_run (a % 4 * 16 + b / 16) (omega arith),
        (
          symbol_run (b % 16 * 4 + c / 64) (omega arith),
          (symbol_run (c % 64) (omega arith), symbols_run rest h.1.1.1),
        ),
      ),
    )

pub base64_run : (s : List ℕ) → AreOctets s → AreRunOctets (encode_of standard s)
base64_run s h = run_both (encode_symbols symbols s) (replicate (padding_len (length s)) 61) (symbols_run s (octets_each s h))
    (padding_run (padding_len (length s)))

symbols_some : (s rest : List ℕ) → s ≢ [] → encode_symbols symbols s ++ rest ≢ []
unfolding encode_symbols
symbols_some [] rest h = absurd (h refl)
symbols_some (a ∷ []) rest h = λ e. absurd (cc e)
symbols_some (a ∷ b ∷ []) rest h = λ e. absurd (cc e)
symbols_some (a ∷ b ∷ c ∷ s) rest h = λ e. absurd (cc e)

pub base64_some : (s : List ℕ) → s ≢ [] → encode_of standard s ≢ []
base64_some s h = symbols_some s (replicate (padding_len (length s)) 61) h

pub base64_form : (s : List ℕ) → AreOctets s → AreBase64 s (digit_tokens (encode_of standard s))
base64_form s h = record {
  bare = tokens_bare (encode_of standard s);
  digits = ap (base64_of standard) (tokens_joined (encode_of standard s)) ∙ decode_of-encode_of standard s (search rules) (bytes_of s h);
}

pub base64_text : (s : List ℕ) → s ≢ [] → AreOctets s → RestText SomeBase64 (in_tokens (encode_of standard s)) s
base64_text s some h = record {
  tokens = digit_tokens (encode_of standard s);
  divided = tokens_divided (encode_of standard s) (base64_some s some) (base64_run s h);
  gives = (digits_there (encode_of standard s) (base64_some s some), base64_form s h);
  unmarked = digits_unmarked (encode_of standard s) (base64_some s some) (base64_run s h);
}

-- ---- lists with a blank between two

pub list_divided : {X : Type 0} (f : X → List ℕ) (g : X → List Token) (x : X) (xs : List X) → AllByRecursion (λ y. AreDivided (f y) (g y)) (x ∷ xs)
    → AreDivided (f x ++ flat_map (λ y. codes " " ++ f y) xs) (flat_map g (x ∷ xs))
list_divided f g x [] h =
    subst (λ (t : List ℕ). AreDivided t (g x ++ [])) (sym (append-nil (f x))) (subst (λ (ws : List Token). AreDivided (f x) ws) (sym (append-nil (g x))) h.0)
list_divided f g x (y ∷ ys) h = divided_then h.0 (list_divided f g y ys h.1)

abbrev string_token : List ℕ → List Token
string_token s = quoted_token false (flat_map escaped s) ∷ []

strings_divided : (ss : List (List ℕ)) → AllByRecursion IsString ss → AllByRecursion (λ s. AreDivided (quoted s) (string_token s)) ss
strings_divided [] h = tt
strings_divided (s ∷ ss) h = (quoted_divided (flat_map escaped s) (spelled_quotes s h.0.octets), strings_divided ss h.1)

are_strings : (ss : List (List ℕ)) → AllByRecursion IsString ss → AreStrings ss (flat_map string_token ss)
are_strings [] h = tt
are_strings (s ∷ ss) h = ((text_form false s h.0.octets, omega (arith, h.0.fits)), are_strings ss h.1)

pub strings_text : (s : List ℕ) (ss : List (List ℕ)) → AllByRecursion IsString (s ∷ ss)
    → RestText SomeStrings (quoted s ++ spaced ss) (flat_map string_octets (s ∷ ss))
strings_text s ss h = record {
  tokens = flat_map string_token (s ∷ ss);
  divided = list_divided quoted string_token s ss (strings_divided (s ∷ ss) h);
  gives = ((λ e. absurd (cc e)), record { strings = s ∷ ss; are = are_strings (s ∷ ss) h; same = refl });
  unmarked = quoted_unmarked false (flat_map escaped s);
}

-- ---- types

typed : (n : ℕ) (t : RecordType) → n < 2 ^ 16 → t ≡ record_type_of n → IsTypeText (zone_type t) t
typed n (Unknown m) small e =
    let same : m ≡ n = ap number_of e ∙ number_of-record_type_of n in
    let below : m < 2 ^ 16 = omega arith in
    let wide : m < 2 ^ 64 = omega arith in
    let written = decimal_is_IsNumeral m wide in
    let read : digits_value 10 (decimal m) ≡ n = written.1 ∙ same in
    inr (record {
      digits = decimal m;
      spelled = refl;
      numeral = written.0;
      few = length-decimal-le 5 m (lit< tt) (omega arith) wide;
      fits = rw written.1 below;
      value = rw read e;
    })
typed n ZERO small e =
    inr (record { digits = codes "0"; spelled = refl; numeral = (omega arith, (omega arith, tt)); few = omega arith; fits = omega arith; value = refl })
typed n ANAME small e =
    inr (record { digits = codes "65305"; spelled = refl; numeral = (omega arith, (omega arith, (omega arith, (omega arith, (omega arith, (omega arith, tt)))))); few = omega arith; fits = omega arith; value = refl })
typed n t small e = inl (record { named = refl; printed = refl })

pub type_form : (n : ℕ) → n < 2 ^ 16 → IsTypeNumber n (bare_token (zone_type (record_type_of n)))
type_form n small = record {
  record_type = record_type_of n;
  is = record { bare = refl; text = inl (typed n (record_type_of n) small refl) };
  number = sym (number_of-record_type_of n);
}

type_some : (t : RecordType) → zone_type t ≢ []
type_some (Unknown n) e = absurd (cc e)
type_some t e = absurd (cc e)

pub run_tested : (s : List ℕ) → list_all is_run_octet s ≡ true → AreRunOctets s
run_tested [] h = tt
run_tested (c ∷ s) h = (first_true (is_run_octet c) (list_all is_run_octet s) h, run_tested s (second_true (is_run_octet c) (list_all is_run_octet s) h))

type_run : (t : RecordType) → number_of t < 2 ^ 64 → AreRunOctets (zone_type t)
type_run (Unknown n) h = run_both (codes "TYPE") (decimal n) (run_tested (codes "TYPE") refl) (decimal_run n h)
type_run t h = run_tested (zone_type t) refl

abbrev type_token : ℕ → List Token
type_token n = bare_token (zone_type (record_type_of n)) ∷ []

abbrev AreNumbers : List ℕ → Type 0
AreNumbers ns = AllByRecursion (λ n. n < 2 ^ 16) ns

type_numbered : (n : ℕ) → n < 2 ^ 16 → AreRunOctets (zone_type (record_type_of n))
type_numbered n h = let e = number_of-record_type_of n in type_run (record_type_of n) (omega (arith, e, h))

types_divided : (ns : List ℕ) → AreNumbers ns → AllByRecursion (λ n. AreDivided (zone_type (record_type_of n)) (type_token n)) ns
types_divided [] h = tt
types_divided (n ∷ ns) h = (plain_divided (zone_type (record_type_of n)) (type_some (record_type_of n)) (type_numbered n h.0), types_divided ns h.1)

are_types : (ns : List ℕ) → AreNumbers ns → AreTypes ns (flat_map type_token ns)
are_types [] h = tt
are_types (n ∷ ns) h = (type_form n h.0, are_types ns h.1)

-- what a list of texts gives, a blank between two
abbrev pub ListText : {X : Type 0} → RestKind → (X → List ℕ) → List X → List ℕ → Type 0
ListText rest f [] octets = RestGives rest octets []
ListText rest f (x ∷ xs) octets = RestText rest (f x ++ flat_map (λ y. codes " " ++ f y) xs) octets

pub types_text : (ns : List ℕ) → AreNumbers ns → ListText AnyTypes (λ n. zone_type (record_type_of n)) ns (flat_map block (minimal ns))
types_text [] h = record { numbers = []; are = tt; same = refl }
types_text (n ∷ ns) h =
    let t = record_type_of n in
    record {
      tokens = flat_map type_token (n ∷ ns);
      divided = list_divided (λ m. zone_type (record_type_of m)) type_token n ns (types_divided (n ∷ ns) h);
      gives = record { numbers = n ∷ ns; are = are_types (n ∷ ns) h; same = refl };
      unmarked = bare_unmarked (zone_type t) (run_first (zone_type t) (type_some t) (type_numbered n h.0));
    }

list_behind : (a b c d : List ℕ) → (a ++ codes " " ++ b) ++ ((codes " " ++ c) ++ d) ≡ a ++ 32 ∷ (b ++ 32 ∷ (c ++ d))
list_behind a b c d = simp append_assoc

list_alone : (a b : List ℕ) → (a ++ codes " " ++ b) ++ [] ≡ a ++ 32 ∷ b
list_alone a b = append-nil (a ++ codes " " ++ b) ∙ append_assoc a (32 ∷ []) b

-- a list after two fields
pub row_list : {X : Type 0} {origin : Option DomainName} {k l : FieldKind} {rest : RestKind} {a b x y : List ℕ} (f : X → List ℕ) (xs : List X) (z : List ℕ)
    → FieldText origin k a x → FieldText origin l b y → ListText rest f xs z
    → RowText origin (k ∷ l ∷ []) rest ((a ++ codes " " ++ b) ++ flat_map (λ w. codes " " ++ f w) xs) (x ++ (y ++ z))
row_list {a = a} {b = b} f [] z h k e = row_text (list_alone a b) (row_then h (row_last z k e))
row_list {a = a} {b = b} f (w ∷ ws) z h k e = row_text (list_behind a b (f w) (flat_map (λ v. codes " " ++ f v) ws)) (row_then h (row_then k (row_rest e)))
