-- Fields that were written give their octets, and so do zone rows of them.
use Rattle.std.proofs.Common.{◌≡◌, ◌≢◌, ℕ, suc, ◌+◌, ◌*◌, ◌/◌, ◌%◌, ◌^◌, ◌<◌, ◌≤◌, Bool, true, false, cond, eqb, ◌&&◌, nat_le, List, [], ◌∷◌, ◌++◌, length}
use Rattle.std.proofs.{lemmas.Str.Parse.digit_at, lemmas.Bool.Decides.nat_tests, lemmas.Fmt.decimal_is_IsNumeral}
use Rattle.std.proofs.lemmas.List.Elements.{All-head, All-tail}
use Rattle.std.proofs.NetLemmas.Texts.{IsDotted-ipv4_text, IsColonHex-ipv6_text, AllSegments, AllSegments-drop}
use Rattle.std.proofs.NetLemmas.Alphabet.{IsDigitOrDot, IsHexOrColon, All-ipv4_text, All-hex_groups_text}
use Rattle.std.proofs.Common.{take, drop, zero, get_or, decimal, codes, inl, inr, Option, None, refl, sym, ◌∙◌, ap, subst, append_assoc, arith}
use Rattle.std.specs.{Int.bytes_high_first, Prelude.flat_map, Prelude.bytes_eq, List.AllByRecursion, List.list_all, declared.net.ipv4_addr.Ipv4Addr.Ipv4Addr}
use Rattle.std.specs.{declared.net.ipv6_addr.Ipv6Addr.Ipv6Addr, Char.to_ascii_lowercase, Char.is_ascii_alphanumeric, Str.str_eq_ignore_ascii_case}
use Rattle.std.specs.{Str.str_to_ascii_lowercase, Net.Text.ipv4_text, Net.Text.ipv6_text, Net.Text.hex_groups_text}
use Rattle.std.specs.Net.Grammar.{IsDotted, IsGroups, IsColonHex}
use Rattle.std.specs.Net.Addr.{IsIpv4Addr, IsIpv6Addr, ipv4_octets, ipv6_octets, ipv6_segments, octets_of}
use Rattle.dns_fields.specs.{Tlvs.string as string_octets, Labels.DomainName, Labels.IsName, Octets.AreOctets}
use Rattle.dns_tokens.proofs.Printed.{ipv4_back, ipv6_back, ttl_back}
use Rattle.dns_zone_tokens.proofs.DecimalSteps.{small_power}
use Rattle.dns_zone_tokens.specs.{Tokens.Token, Remaining.IsUnknownMark, NameTokens.name, NameTokens.name_octets, Mnemonics.Named, Mnemonics.number_named}
use Rattle.hex.specs.Hex.{IsBytes}
use Rattle.dns_zone_rows.specs.Mnemonics.{IsNamedNumber}
use Rattle.dns_zone_rows.specs.Rows.{FieldKind, Number, NamedNumber, Ttl, Ipv4, Ipv6, Name, String, Tag, Octets, RestKind, FieldGives, RestGives, FieldsGive}
use Rattle.dns_rdata_zone.specs.{Strings.quoted, Readable.IsString, ZoneGives.AreUnmarked, Names.zone_label, Names.zone_labels, Names.zone_name}
use Rattle.dns_rdata_zone.specs.Spellings.{escaped, needs_backslash, name_octet}
use Rattle.dns_rdata_zone.proofs.Dividing.{AreDivided, divided_then, bare_token, quoted_token, is_run_octet, plain_divided, AreRunOctets, run_not, run_by_index}
use Rattle.dns_rdata_zone.proofs.{Letters.first_true, Letters.second_true, TokenForms.number_form, TokenForms.text_form, TokenForms.name_form}
use Rattle.dns_rdata_zone.proofs.Dividing.{run_all, run_both, quoted_divided, spelled_quotes, name_divided, NoneEmpty}

-- ---- zone rows

-- the token does not begin the unknown-data form
abbrev pub IsUnmarked : Token → Type 0
IsUnmarked token = IsUnknownMark token → ⊥

-- the text is a token that gives these octets for the field
pub record FieldText (origin : Option DomainName) (field : FieldKind) (text octets : List ℕ) : Type 0 where
  pub token : Token
  pub divided : AreDivided text (token ∷ [])
  pub gives : FieldGives origin field octets token
  pub unmarked : IsUnmarked token

-- the text is tokens that give these octets for fields and what follows them
pub record RowText (origin : Option DomainName) (fields : List FieldKind) (rest : RestKind) (text octets : List ℕ) : Type 0 where
  pub tokens : List Token
  pub divided : AreDivided text tokens
  pub gives : FieldsGive origin fields rest octets tokens
  pub unmarked : AreUnmarked tokens

pub row_then : {origin : Option DomainName} {field : FieldKind} {fields : List FieldKind} {rest : RestKind} {a b x y : List ℕ} → FieldText origin field a x
    → RowText origin fields rest b y → RowText origin (field ∷ fields) rest (a ++ 32 ∷ b) (x ++ y)
row_then {x = x} {y = y} h k = record {
  tokens = h.token ∷ k.tokens;
  divided = divided_then h.divided k.divided;
  gives = record { front = x; behind = y; same = refl; first = h.gives; others = k.gives };
  unmarked = h.unmarked;
}

-- the last field, which nothing follows
pub row_last : {origin : Option DomainName} {field : FieldKind} {rest : RestKind} {a x : List ℕ} (y : List ℕ) → FieldText origin field a x → RestGives rest y []
    → RowText origin (field ∷ []) rest a (x ++ y)
row_last {x = x} y h k = record {
  tokens = h.token ∷ [];
  divided = h.divided;
  gives = record { front = x; behind = y; same = refl; first = h.gives; others = k };
  unmarked = h.unmarked;
}

-- however the parts of the text were grouped
pub row_text : {origin : Option DomainName} {fields : List FieldKind} {rest : RestKind} {a b x : List ℕ} → a ≡ b → RowText origin fields rest b x
    → RowText origin fields rest a x
row_text {origin = origin} {fields = fields} {rest = rest} {x = x} e h = subst (λ (t : List ℕ). RowText origin fields rest t x) (sym e) h

-- ---- tokens that begin with an octet other than `\`

abbrev pub OtherFirst : List ℕ → Type 0
OtherFirst [] = ⊥
OtherFirst (c ∷ s) = c ≢ 92

pub bare_unmarked : (s : List ℕ) → OtherFirst s → IsUnmarked (bare_token s)
bare_unmarked [] h mark = h
bare_unmarked (c ∷ s) h mark = let e : c ∷ s ≡ 92 ∷ 35 ∷ [] = mark.octets in h (cc e)

pub quoted_unmarked : (joined : Bool) (s : List ℕ) → IsUnmarked (quoted_token joined s)
quoted_unmarked joined s mark = let e : true ≡ false = mark.bare in absurd (cc e)

-- ---- fields

pub run_first : (s : List ℕ) → s ≢ [] → AreRunOctets s → OtherFirst s
run_first [] some h = absurd (some refl)
run_first (c ∷ s) some h = λ e. run_not c h.0 e

pub decimal_some : (n : ℕ) → n < 2 ^ 64 → decimal n ≢ []
decimal_some n small e = let num = decimal_is_IsNumeral n small in let none : length (decimal n) ≡ 0 = ap length e in omega (arith, none, num.0.0)

digit_run : (c : ℕ) → 48 ≤ c → c ≤ 57 → is_run_octet c ≡ true
digit_run c low high = grind (arith, nat_tests)

pub decimal_run : (n : ℕ) → n < 2 ^ 64 → AreRunOctets (decimal n)
decimal_run n small =
    let num = decimal_is_IsNumeral n small in
    run_by_index (decimal n) (λ k lt. let digit = digit_at (decimal n) k num.0.1 lt in
    digit_run (get_or (decimal n) k 0) (omega (arith, digit)) (omega (arith, digit)))

-- a token whose octets need no escape
pub plain_text : {origin : Option DomainName} {field : FieldKind} (s octets : List ℕ) → s ≢ [] → AreRunOctets s → FieldGives origin field octets (bare_token s)
    → FieldText origin field s octets
plain_text s octets some h k = record { token = bare_token s; divided = plain_divided s some h; gives = k; unmarked = bare_unmarked s (run_first s some h) }

wide : (w n : ℕ) → w ≤ 4 → n < 2 ^ (8 * w) → n < 2 ^ 64
wide w n few h = let most = small_power w few in omega (arith, most, h)

-- a number of at most four octets
pub short_text : (origin : Option DomainName) (w n : ℕ) → w ≤ 4 → n < 2 ^ (8 * w) → FieldText origin (Number w) (decimal n) (bytes_high_first w n)
short_text origin w n few fits = plain_text (decimal n) (bytes_high_first w n) (decimal_some n (wide w n few fits)) (decimal_run n (wide w n few fits))
    (record { value = n; is = number_form w n fits (wide w n few fits); same = refl })

pub ttl_text : (origin : Option DomainName) (n : ℕ) → n ≤ 4294967295 → FieldText origin Ttl (decimal n) (bytes_high_first 4 n)
ttl_text origin n fits = plain_text (decimal n) (bytes_high_first 4 n) (decimal_some n (omega arith)) (decimal_run n (omega arith))
    (record { value = n; is = (refl, (ttl_back 4294967295 n (omega arith) fits).is); same = refl })

second_is : (a b c d : ℕ) (s : List ℕ) → a ∷ b ∷ s ≡ c ∷ d ∷ [] → b ≡ d
second_is a b c d s e = cc e

first_is : (a c d : ℕ) (s : List ℕ) → a ∷ s ≡ c ∷ d ∷ [] → a ≡ c
first_is a c d s e = cc e

-- an octet of a label and what follows it are no `\#`
not_mark : (c x y z : ℕ) (b e : Bool) (s : List ℕ) → (b ≡ true → c ≢ 35) → (b ≡ false → c ≢ 92) → 48 ≤ x
    → cond b (92 ∷ c ∷ []) (cond e (c ∷ []) (92 ∷ x ∷ y ∷ z ∷ [])) ++ s ≡ 92 ∷ 35 ∷ [] → ⊥
not_mark c x y z true e s h k low same = h refl (second_is 92 c 92 35 s same)
not_mark c x y z false true s h k low same = k refl (first_is c 92 35 s same)
not_mark c x y z false false s h k low same = let other = second_is 92 x 92 35 (y ∷ z ∷ s) same in omega (arith, other, low)

octet_not_mark : (c : ℕ) (s : List ℕ) → name_octet c ++ s ≡ 92 ∷ 35 ∷ [] → ⊥
octet_not_mark c s same = not_mark c (48 + c / 100) (48 + c / 10 % 10) (48 + c % 10) (needs_backslash c) (nat_le 33 c && nat_le c 126) s
    (λ e f. absurd (grind (arith, nat_tests))) (λ e f. absurd (grind (arith, nat_tests))) (omega arith) same

first_apart : (n l d r : List ℕ) → ((n ++ l) ++ d) ++ r ≡ n ++ ((l ++ d) ++ r)
first_apart n l d r = simp append_assoc

label_not_mark : (c : ℕ) (l r : List ℕ) → (flat_map name_octet (c ∷ l) ++ 46 ∷ []) ++ r ≡ 92 ∷ 35 ∷ [] → ⊥
label_not_mark c l r same =
    octet_not_mark c ((flat_map name_octet l ++ 46 ∷ []) ++ r) (sym (first_apart (name_octet c) (flat_map name_octet l) (46 ∷ []) r) ∙ same)

labels_not_mark : (ls : List (List ℕ)) → NoneEmpty ls → zone_labels ls ≡ 92 ∷ 35 ∷ [] → ⊥
labels_not_mark [] k same = let e : 46 ∷ [] ≡ 92 ∷ 35 ∷ [] = same in absurd (cc (e))
labels_not_mark ([] ∷ ls) k same = absurd (k.0 refl)
labels_not_mark ((c ∷ l) ∷ ls) k same = label_not_mark c l (flat_map zone_label ls) same

pub name_text : (origin : Option DomainName) (x : DomainName) → AllByRecursion AreOctets x.labels → NoneEmpty x.labels → x.fully_qualified ≡ true → IsName x
    → FieldText origin Name (zone_name x) (name_octets x)
name_text origin x h k q is = record {
  token = bare_token (zone_name x);
  divided = name_divided x.labels h k;
  gives = record { value = x; is = name_form x origin h k q is; same = refl };
  unmarked = λ mark. labels_not_mark x.labels k mark.octets;
}

-- what is in quotes
quoted_text : {origin : Option DomainName} {field : FieldKind} (s octets : List ℕ) → AreOctets s
    → FieldGives origin field octets (quoted_token false (flat_map escaped s))
    → FieldText origin field (quoted s) octets
quoted_text s octets h k = record {
  token = quoted_token false (flat_map escaped s);
  divided = quoted_divided (flat_map escaped s) (spelled_quotes s h);
  gives = k;
  unmarked = quoted_unmarked false (flat_map escaped s);
}

pub string_text : (origin : Option DomainName) (s : List ℕ) → IsString s → FieldText origin String (quoted s) (string_octets s)
string_text origin s h = quoted_text s (string_octets s) h.octets (record { value = s; is = (text_form false s h.octets, omega (arith, h.fits)); same = refl })

pub octets_text : (origin : Option DomainName) (s : List ℕ) → AreOctets s → FieldText origin Octets (quoted s) s
octets_text origin s h = quoted_text s s h (record { value = s; is = text_form false s h; same = refl })

pub tag_text : (origin : Option DomainName) (s : List ℕ) → s ≢ [] → AreRunOctets s → length s ≤ 255 → FieldText origin Tag s (string_octets s)
tag_text origin s some h fits = plain_text s (string_octets s) some h
    (record { value = s; is = record { bare = refl; some = some_length s some; most = fits; value = refl }; same = refl }) where
      some_length : (s : List ℕ) → s ≢ [] → 1 ≤ length s
      some_length [] h = absurd (h refl)
      some_length (c ∷ s) h = omega arith

-- ---- numbers that have names

-- a letter begins the name
abbrev pub begins_letter : List ℕ → Bool
begins_letter [] = false
begins_letter (c ∷ s) = nat_le 65 c

digit_apart : (d c : ℕ) → 48 ≤ d → d ≤ 57 → nat_le 65 c ≡ true → eqb (to_ascii_lowercase d) (to_ascii_lowercase c) ≡ false
digit_apart d c low high h = grind (arith, nat_tests)

name_apart : (d : ℕ) (s name : List ℕ) → 48 ≤ d → d ≤ 57 → begins_letter name ≡ true → str_eq_ignore_ascii_case (d ∷ s) name ≡ false
name_apart d s [] low high h = absurd (cc h)
name_apart d s (c ∷ name) low high h =
    ap (λ (b : Bool). b && bytes_eq (str_to_ascii_lowercase s) (str_to_ascii_lowercase name)) (digit_apart d c low high h)

table_apart : (table : List Named) (d : ℕ) (s : List ℕ) → 48 ≤ d → d ≤ 57 → list_all (λ x. begins_letter x.name) table ≡ true
    → number_named table (d ∷ s) ≡ None
table_apart [] d s low high h = refl
table_apart (x ∷ table) d s low high h =
    rw (name_apart d s x.name low high (first_true (begins_letter x.name) (list_all (λ y. begins_letter y.name) table) h))
    (table_apart table d s low high (second_true (begins_letter x.name) (list_all (λ y. begins_letter y.name) table) h))

digits_apart : (table : List Named) (s : List ℕ) → 0 < length s → 48 ≤ get_or s 0 0 → get_or s 0 0 ≤ 57 → list_all (λ x. begins_letter x.name) table ≡ true
    → number_named table s ≡ None
digits_apart table [] some low high h = absurd (omega (arith, some))
digits_apart table (d ∷ s) some low high h = table_apart table d s low high h

number_apart : (table : List Named) (n : ℕ) → n < 2 ^ 64 → list_all (λ x. begins_letter x.name) table ≡ true → number_named table (decimal n) ≡ None
number_apart table n small h =
    let num = decimal_is_IsNumeral n small in
    let digit = digit_at (decimal n) 0 num.0.1 num.0.0 in
    digits_apart table (decimal n) num.0.0 (omega (arith, digit)) (omega (arith, digit)) h

-- the number of a name is written by its digits
pub named_text : (origin : Option DomainName) (w : ℕ) (table : List Named) (n : ℕ) → w ≤ 4 → n < 2 ^ (8 * w)
    → list_all (λ x. begins_letter x.name) table ≡ true
    → FieldText origin (NamedNumber w table) (decimal n) (bytes_high_first w n)
named_text origin w table n few fits letters =
    let small = wide w n few fits in
    plain_text (decimal n) (bytes_high_first w n) (decimal_some n small) (decimal_run n small) (record {
      value = n;
      is = subst (λ (o : Option ℕ). IsNamedNumber w o n (bare_token (decimal n))) (sym (number_apart table n small letters)) (number_form w n fits small);
      same = refl;
    })

-- ---- tags

alphanumeric_one : (c : ℕ) → is_ascii_alphanumeric c ≡ true → is_run_octet c ≡ true
alphanumeric_one c h = grind (arith, nat_tests)

pub alphanumeric_run : (s : List ℕ) → list_all is_ascii_alphanumeric s ≡ true → AreRunOctets s
alphanumeric_run [] h = tt
alphanumeric_run (c ∷ s) h = (alphanumeric_one c (first_true (is_ascii_alphanumeric c) (list_all is_ascii_alphanumeric s) h), alphanumeric_run s (second_true (is_ascii_alphanumeric c) (list_all is_ascii_alphanumeric s) h))

-- ---- addresses

dotted_run : (c : ℕ) → IsDigitOrDot c → is_run_octet c ≡ true
dotted_run c (inl h) = digit_run c (omega (arith, h)) (omega (arith, h))
dotted_run c (inr h) = rw h refl

group_run : (c : ℕ) → IsHexOrColon c → is_run_octet c ≡ true
group_run c (inl h) = let low = h.0 in let high = h.1 in grind (arith, nat_tests)
group_run c (inr h) = let low = h.0 in let high = h.1 in grind (arith, nat_tests)

pub dotted_octets : (o : List ℕ) → ((k : ℕ) → get_or o k 0 < 2 ^ 8) → AreRunOctets (ipv4_text o)
dotted_octets o fits = run_all IsDigitOrDot dotted_run (ipv4_text o) (All-ipv4_text o fits)

pub bounded : (s : List ℕ) → AllSegments s → (k : ℕ) → get_or (octets_of s) k 0 < 2 ^ 8
bounded [] h k = omega arith
bounded (x ∷ s) h zero = let fits = h 0 in omega (arith, fits)
bounded (x ∷ s) h (suc zero) = omega arith
bounded (x ∷ s) h (suc (suc k)) = bounded s (λ j. h (suc j)) k

one_run : (b : Bool) (x y : List ℕ) → AreRunOctets x → AreRunOctets y → AreRunOctets (cond b x y)
one_run true x y h k = h
one_run false x y h k = k

segments_run : (s : List ℕ) → AllSegments s → AreRunOctets (ipv6_text s)
unfolding ipv6_text
segments_run s fits = one_run (bytes_eq (take 6 s) (0 ∷ 0 ∷ 0 ∷ 0 ∷ 0 ∷ 65535 ∷ [])) (codes "::ffff:" ++ ipv4_text (octets_of (drop 6 s))) (hex_groups_text s)
    (run_both (codes "::ffff:") (ipv4_text (octets_of (drop 6 s))) (refl, (refl, (refl, (refl, (refl, (refl, (refl, tt)))))))
    (dotted_octets (octets_of (drop 6 s)) (bounded (drop 6 s) (AllSegments-drop 6 s fits))))
    (run_all IsHexOrColon group_run (hex_groups_text s) (All-hex_groups_text s fits))

-- the text of an address is not empty
not_empty : (a : List ℕ) (c : ℕ) (t s : List ℕ) → s ≡ a ++ c ∷ t → s ≢ []
not_empty [] c t s e = λ none. absurd (cc (e, none))
not_empty (d ∷ a) c t s e = λ none. absurd (cc (e, none))

dotted_some : (s o : List ℕ) → IsDotted s o → s ≢ []
dotted_some s o h =
    let front = decimal h.a ++ codes "." ++ decimal h.b ++ codes "." ++ decimal h.c in
    not_empty front 46 (decimal h.d) s (h.spelled ∙ append_assoc front (46 ∷ []) (decimal h.d))

some_numeral : (group rest s : List ℕ) → s ≡ group ++ rest → 0 < length group → s ≢ []
some_numeral [] rest s e h = absurd (omega arith)
some_numeral (c ∷ group) rest s e h = λ none. absurd (cc (e, none))

groups_some : (s segments : List ℕ) → length segments ≡ 8 → IsGroups true s segments → s ≢ []
groups_some s [] n h = absurd (omega (arith, n))
groups_some s (x ∷ segments) n (inl h) = some_numeral h.0 h.1 s h.2 h.3.0.0.0
groups_some s (x ∷ segments) n (inr h) = λ none. dotted_some h.0 h.1 h.4 (sym h.3 ∙ none)

colon_some : (s segments : List ℕ) → IsColonHex s segments → s ≢ []
colon_some s segments (inl h) = groups_some s segments h.1 h.0
colon_some s segments (inr h) = not_empty h.head_text 58 (58 ∷ h.tail_text) s (h.spelled ∙ append_assoc h.head_text (58 ∷ 58 ∷ []) h.tail_text)

pub ipv4_text_of : (origin : Option DomainName) (a : Ipv4Addr) → IsIpv4Addr a → FieldText origin Ipv4 (ipv4_text (ipv4_octets a)) (ipv4_octets a)
ipv4_text_of origin a h =
    plain_text (ipv4_text (ipv4_octets a)) (ipv4_octets a) (dotted_some (ipv4_text (ipv4_octets a)) (ipv4_octets a) (IsDotted-ipv4_text _ h.0 h.1))
    (dotted_octets (ipv4_octets a) h.1)
    (record { value = ipv4_octets a; is = (refl, (ipv4_back a h).is); same = refl })

pub ipv6_text_of : (origin : Option DomainName) (a : Ipv6Addr) → IsIpv6Addr a → FieldText origin Ipv6 (ipv6_text (ipv6_segments a)) (ipv6_octets a)
ipv6_text_of origin a h =
    plain_text (ipv6_text (ipv6_segments a)) (ipv6_octets a) (colon_some (ipv6_text (ipv6_segments a)) (ipv6_segments a) (IsColonHex-ipv6_text _ h.0 h.1))
    (segments_run (ipv6_segments a) h.1)
    (record { value = ipv6_octets a; is = (refl, (ipv6_back a h).is); same = refl })

pub bytes_of : (s : List ℕ) → AreOctets s → IsBytes s
bytes_of [] h i = omega arith
bytes_of (c ∷ s) h zero = All-head (λ x. x < 256) c s h
bytes_of (c ∷ s) h (suc i) = bytes_of s (All-tail (λ x. x < 256) c s h) i
