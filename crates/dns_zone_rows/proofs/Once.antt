-- Tokens give at most one list of octets by a zone row.
use Rattle.std.proofs.NetLemmas.Theorems.{IsIpv4Text_unique, IsIpv6Text_unique}
use Rattle.std.proofs.Common.{◌≡◌, ℕ, true, List, [], ◌∷◌, ◌++◌, drop, find, codes, Option, Some, None, Result, Ok, refl, sym, ap, ◌∙◌, subst, inl, inr, arith}
use Rattle.std.specs.{List.flat_map, Net.Addr.ipv4_octets, Net.Addr.ipv6_octets, Str.Parse.digits_value}
use Rattle.dns_fields.specs.{Bitmaps.block, Bitmaps.minimal, declared.Kind.Kind, Fields.Value, Labels.DomainName, Tlvs.string as string_octets}
use Rattle.dns_tokens.proofs.TtlSteps.{periods_one}
use Rattle.dns_types.specs.{declared.record_type.RecordType.RecordType, declared.record_type.RecordType.TheVariants.Unknown}
use Rattle.dns_types.specs.RecordTypes.{number_of, is_named, named_types, record_type_of, type_text, has_name, IsTypeName, IsNumberText, IsTypeText}
use Rattle.dns_types.proofs.TypeTexts.{reads_name}
use Rattle.dns_zone_tokens.specs.{Tokens.Token, TypeNames.IsZoneType, Mnemonics.number_named, Forms.ZoneForm, Forms.number, Forms.string}
use Rattle.dns_zone_rows.proofs.{ParameterItems.same_both, OneReading.one_reading}
use Rattle.dns_zone_rows.specs.Rows.{FieldKind, Number, NamedNumber, Ttl, Ipv4, Ipv6, Name, String, Tag, Octets, QuotedOctets, Digits, TypeNumber, Time, Salt, Base32, Grouped, RestKind}
use Rattle.dns_zone_rows.specs.{Base32.base32_octets, Groups.groups_from, HexDigits.hex_octets, Mnemonics.IsNamedNumber}
use Rattle.dns_zone_rows.specs.Times.{IsPart, IsTimeText, date_seconds}
use Rattle.dns_zone_rows.specs.Rows.{IsDecoded, MaybeStringGives, salt}
use Rattle.dns_zone_rows.specs.Rows.{NoToken, SomeStrings, MaybeString, SomeHex, LongHex, SomeBase64, AnyBase64, AnyTypes, AnyParameters, RowShape, Gives, FieldGives, IsTypeNumber, RestGives, FieldsGive, RowGives}

-- ---- one token

-- a token has at most one value of the form
record Once {k : Kind} (form : ZoneForm k) : Type 0 where
  one : (token : Token) (v w : Value k) → form.is v token → form.is w token → v ≡ w

gives_once : {k : Kind} {form : ZoneForm k} {written : Value k → List ℕ} {a b : List ℕ} {token : Token} → Once form → Gives form written a token
    → Gives form written b token → a ≡ b
gives_once {written = written} {token = token} once x y = x.same ∙ ap written (once.one token x.value y.value x.is y.is) ∙ sym y.same

number_once : (w : ℕ) → Once (number w)
number_once w = record { one = λ token v n x y. x.0.value ∙ sym y.0.value }

by_name_once : (w : ℕ) (named : Option ℕ) (token : Token) (v n : ℕ) → IsNamedNumber w named v token → IsNamedNumber w named n token → v ≡ n
by_name_once w (Some value) token v n x y = x.1 ∙ sym y.1
by_name_once w None token v n x y = (number_once w).one token v n x y

same_name : (o : Option DomainName) (v w : DomainName) → o ≡ Some v → o ≡ Some w → v ≡ w
same_name o v w e f = cc

string_once : Once string
string_once = record { one = λ token v w x y. x.0.value ∙ sym y.0.value }

-- ---- types of records

name_found : (t : RecordType) → is_named t ≡ true → find (has_name (type_text t)) named_types ≡ Some t
name_found (Unknown n) e = absurd (cc e)
name_found t e = refl

-- a name is of no other type
only_name : (octets : List ℕ) (t u : RecordType) → IsTypeName octets t → IsTypeText octets u → u ≡ t
only_name octets t u n is =
    let found : find (has_name octets) named_types ≡ Some t =
    subst (λ (s : List ℕ). find (has_name s) named_types ≡ Some t) (sym n.printed) (name_found t n.named) in
    (reads_name octets t found).1 u is

same_number : (octets : List ℕ) (t u : RecordType) → IsNumberText octets t → IsNumberText octets u → t ≡ u
same_number octets t u a b =
    let e : codes "TYPE" ++ a.digits ≡ codes "TYPE" ++ b.digits = sym a.spelled ∙ b.spelled in
    let d : a.digits ≡ b.digits = ap (drop 4) e in
    a.value ∙ ap (λ (ds : List ℕ). record_type_of (digits_value 10 ds)) d ∙ sym b.value

type_once : (octets : List ℕ) (t u : RecordType) → IsTypeText octets t → IsTypeText octets u → t ≡ u
type_once octets t u (inl n) y = sym (only_name octets t u n y)
type_once octets t u (inr n) (inl m) = only_name octets u t m (inr n)
type_once octets t u (inr n) (inr m) = same_number octets t u n m

-- a name of the registry is no text that `RecordType` reads
zone_type_once : (octets : List ℕ) (t u : RecordType) → IsZoneType octets t → IsZoneType octets u → t ≡ u
zone_type_once octets t u (inl a) (inl b) = type_once octets t u a b
zone_type_once octets t u (inl a) (inr b) = absurd (b.others t a)
zone_type_once octets t u (inr a) (inl b) = absurd (a.others u b)
zone_type_once octets t u (inr a) (inr b) =
    let same : a.number ≡ b.number = let e = sym a.listed ∙ b.listed in cc e in
    a.value ∙ ap record_type_of same ∙ sym b.value

number_type_once : (token : Token) (n m : ℕ) → IsTypeNumber n token → IsTypeNumber m token → n ≡ m
number_type_once token n m x y = x.number ∙ ap number_of (zone_type_once token.octets x.record_type y.record_type x.is.text y.is.text) ∙ sym y.number

-- ---- times and digits

some_once : {A : Type 0} (o : Option A) (v w : A) → o ≡ Some v → o ≡ Some w → v ≡ w
some_once o v w e f = cc

part_once : {text : List ℕ} {start count v w : ℕ} → IsPart text start count v → IsPart text start count w → v ≡ w
part_once x y = x.value ∙ sym y.value

time_once : (v w : ℕ) (text : List ℕ) → IsTimeText v text → IsTimeText w text → v ≡ w
time_once v w text (inl x) (inl y) = part_once x.number y.number
time_once v w text (inl x) (inr y) = let short = x.short in let long = y.long in absurd (omega (arith, short, long))
time_once v w text (inr x) (inl y) = let long = x.long in let short = y.short in absurd (omega (arith, short, long))
time_once v w text (inr x) (inr y) =
    let year = part_once x.is_year y.is_year in
    let month = part_once x.is_month y.is_month in
    let day = part_once x.is_day y.is_day in
    let hour = part_once x.is_hour y.is_hour in
    let minute = part_once x.is_minute y.is_minute in
    let second = part_once x.is_second y.is_second in
    some_once (date_seconds y.year y.month y.day y.hour y.minute y.second) v w (rw (← year, ← month, ← day, ← hour, ← minute, ← second) x.value) y.value

decoded_once : (decode : List ℕ → Option (List ℕ)) (token : Token) (v w : List ℕ) → IsDecoded decode v token → IsDecoded decode w token → v ≡ w
decoded_once decode token v w x y = some_once (decode token.octets) v w x.value y.value

no_hyphen : {octets text : List ℕ} → text ≡ 45 ∷ [] → hex_octets text ≡ Some octets → ⊥
no_hyphen {octets} {text} is value = let bad : None ≡ Some octets = sym (ap hex_octets is) ∙ value in absurd (cc bad)

salt_once : (token : Token) (v w : List ℕ) → salt.is v token → salt.is w token → v ≡ w
salt_once token v w (inl x) (inl y) = x.1 ∙ sym y.1
salt_once token v w (inl x) (inr y) = absurd (no_hyphen x.0.hyphen y.value)
salt_once token v w (inr x) (inl y) = absurd (no_hyphen y.0.hyphen x.value)
salt_once token v w (inr x) (inr y) = decoded_once hex_octets token v w x y

-- ---- one field

field_once : (origin : Option DomainName) (field : FieldKind) (a b : List ℕ) (token : Token) → FieldGives origin field a token
    → FieldGives origin field b token → a ≡ b
field_once origin (Number w) a b token x y = gives_once (number_once w) x y
field_once origin (NamedNumber w table) a b token x y = gives_once (record { one = λ k v n f g. by_name_once w (number_named table k.octets) k v n f g }) x y
field_once origin Ttl a b token x y = gives_once (record { one = λ k v n f g. periods_one f.1.0.sum g.1.0.sum }) x y
field_once origin Ipv4 a b token x y =
    gives_once (record { one = λ k v w f g. f.1.2 ∙ ap ipv4_octets (IsIpv4Text_unique k.octets f.1.0 g.1.0 f.1.1 g.1.1) ∙ sym g.1.2 }) x y
field_once origin Ipv6 a b token x y =
    gives_once (record { one = λ k v w f g. f.1.2 ∙ ap ipv6_octets (IsIpv6Text_unique k.octets f.1.0 g.1.0 f.1.1 g.1.1) ∙ sym g.1.2 }) x y
field_once origin Name a b token x y = gives_once (record { one = λ k v w f g. same_name _ v w f.named g.named }) x y
field_once origin String a b token x y = gives_once string_once x y
field_once origin Tag a b token x y = gives_once (record { one = λ k v w f g. f.value ∙ sym g.value }) x y
field_once origin Octets a b token x y = gives_once (record { one = λ k v w f g. f.value ∙ sym g.value }) x y
field_once origin QuotedOctets a b token x y = gives_once (record { one = λ k v w f g. f.text.value ∙ sym g.text.value }) x y
field_once origin Digits a b token x y = gives_once (record { one = λ k v w f g. f.value ∙ sym g.value }) x y
field_once origin TypeNumber a b token x y = gives_once (record { one = λ k v w f g. number_type_once k v w f g }) x y
field_once origin Time a b token x y = gives_once (record { one = λ k v w f g. time_once v w k.octets f.1 g.1 }) x y
field_once origin Salt a b token x y = gives_once (record { one = salt_once }) x y
field_once origin Base32 a b token x y = gives_once (record { one = decoded_once base32_octets }) x y
field_once origin (Grouped form) a b token x y = gives_once (record { one = λ k v w f g. some_once (groups_from form [] 0 0 k.octets) v w f.1 g.1 }) x y

-- ---- all remaining tokens

same_ok : {E : Type 0} (r : Result (List ℕ) E) (a b : List ℕ) → r ≡ Ok a → r ≡ Ok b → a ≡ b
same_ok r a b e f = cc

maybe_once : (a b : List ℕ) (tokens : List Token) → MaybeStringGives a tokens → MaybeStringGives b tokens → a ≡ b
maybe_once a b tokens (inl x) (inl y) = x.1 ∙ sym y.1
maybe_once a b tokens (inl x) (inr y) = let bad : [] ≡ y.token ∷ [] = sym x.0 ∙ y.only in absurd (cc bad)
maybe_once a b tokens (inr x) (inl y) = let bad : [] ≡ x.token ∷ [] = sym y.0 ∙ x.only in absurd (cc bad)
maybe_once a b tokens (inr x) (inr y) =
    let only : x.token ∷ [] ≡ y.token ∷ [] = sym x.only ∙ y.only in
    let same : y.token ≡ x.token = cc in
    gives_once string_once x.given (subst (Gives string string_octets b) same y.given)

rest_once : (rest : RestKind) (a b : List ℕ) (tokens : List Token) → RestGives rest a tokens → RestGives rest b tokens → a ≡ b
rest_once NoToken a b tokens x y = x.1 ∙ sym y.1
rest_once SomeStrings a b tokens x y =
    x.1.same ∙ ap (flat_map string_octets) (same_both (λ w s. string.is s w) string_once.one tokens x.1.strings y.1.strings x.1.are y.1.are) ∙ sym y.1.same
rest_once MaybeString a b tokens x y = maybe_once a b tokens x y
rest_once SomeHex a b tokens x y = same_ok _ a b x.1.digits y.1.digits
rest_once (LongHex least) a b tokens x y = same_ok _ a b x.1.digits y.1.digits
rest_once SomeBase64 a b tokens x y = same_ok _ a b x.1.digits y.1.digits
rest_once AnyBase64 a b tokens x y = same_ok _ a b x.digits y.digits
rest_once AnyTypes a b tokens x y = x.same ∙ ap (λ (ns : List ℕ). flat_map block (minimal ns)) (same_both (λ w n. IsTypeNumber n w) number_type_once tokens x.numbers y.numbers x.are y.are) ∙ sym y.same
rest_once AnyParameters a b tokens x y = one_reading tokens a b x y

-- ---- zone rows

fields_once : (origin : Option DomainName) (fields : List FieldKind) (rest : RestKind) (a b : List ℕ) (tokens : List Token)
    → FieldsGive origin fields rest a tokens → FieldsGive origin fields rest b tokens → a ≡ b
fields_once origin [] rest a b tokens x y = rest_once rest a b tokens x y
fields_once origin (field ∷ fields) rest a b [] x y = absurd x
fields_once origin (field ∷ fields) rest a b (token ∷ tokens) x y =
    let first : x.front ≡ y.front = field_once origin field x.front y.front token x.first y.first in
    let others : x.behind ≡ y.behind = fields_once origin fields rest x.behind y.behind tokens x.others y.others in
    x.same ∙ ap (λ (s : List ℕ). s ++ x.behind) first ∙ ap (λ (s : List ℕ). y.front ++ s) others ∙ sym y.same

pub row_once : (origin : Option DomainName) (zone_row : RowShape) (a b : List ℕ) (tokens : List Token) → RowGives origin zone_row a tokens
    → RowGives origin zone_row b tokens → a ≡ b
row_once origin zone_row a b tokens x y = fields_once origin zone_row.fields zone_row.rest a b tokens x.fields y.fields
