-- Values of parameters that were written are read as they were.
use Rattle.std.proofs.Common.{rules, ◌≡◌, ◌≢◌, ℕ, zero, suc, ◌+◌, ◌^◌, ◌<◌, ◌≤◌, Bool, true, false, cond, eqb, ◌||◌, ◌&&◌, nat_lt, List, [], ◌∷◌, arith}
use Rattle.std.proofs.Common.{◌++◌, map, length, take, drop, get_or, All, inl, inr, decimal, codes, Ok, refl, sym, ◌∙◌, ap, subst}
use Rattle.std.specs.{Prelude.flat_map, Prelude.slice_index, Prelude.not, Prelude.bytes_eq, Net.Text.ipv4_text, Net.Text.ipv6_text, Net.Text.hex_groups_text}
use Rattle.std.specs.{Int.bytes_high_first, List.AllByRecursion, List.AllZip, List.list_all, List.join_with_byte, List.Sorted.IsStrictlyIncreasing}
use Rattle.std.specs.Net.Addr.{IsIpv4Addr, IsIpv6Addr, ipv4_octets, ipv6_segments, octets_of}
use Rattle.std.proofs.{NetLemmas.Texts.AllSegments, NetLemmas.Texts.AllSegments-drop, lemmas.Bool.Decides.nat_tests}
use Rattle.std.proofs.{lemmas.Fmt.decimal_is_IsNumeral, lemmas.Grind.flat_map-append, lemmas.List.append-nil, lemmas.List.Sorted.IsPermutation-refl}
use Rattle.std.proofs.NetLemmas.Alphabet.{IsDigitOrDot, IsHexOrColon, All-ipv4_text, All-hex_groups_text}
use Rattle.std.proofs.lemmas.List.Elements.{All-append, All-cons, All-head, All-nil, All-tail}
use Rattle.base64.specs.{Engines.standard, GeneralPurpose.encode_of, GeneralPurpose.decode_of}
use Rattle.base64.proofs.EngineFacts.{decode_of-encode_of}
use Rattle.dns_fields.specs.{Octets.AreOctets, Tlvs.string}
use Rattle.dns_rdata_base.specs.{A.a_text, AAAA.aaaa_text, declared.a.A.A, declared.aaaa.AAAA.AAAA}
use Rattle.dns_rdata_service.specs.{SvcParamKey.key_number, declared.svcb.key.SvcParamKey.SvcParamKey, SvcParamValue.a_octets, SvcParamValue.aaaa_octets}
use Rattle.dns_tokens.proofs.Printed.{ipv4_back, ipv6_back}
use Rattle.dns_zone_tokens.specs.Letters.{Letter, plain, letters, octet_of, escapes_stand}
use Rattle.dns_zone_rows.specs.{ParameterValues.HasOctets, ParameterValues.IsPort, ParameterValues.forbids_escapes, ParameterValues.IsValue, ParameterLaws.IsPlainItem, ParameterLaws.IsProtocolName}
use Rattle.dns_zone_rows.proofs.WrittenLists.{plain_items, names_read}
use Rattle.dns_zone_rows.specs.ParameterLists.{items_in, IsItem, IsList, IsListedKey, IsKeyList}
use Rattle.dns_zone_rows.specs.declared.parameters.lists.ListItem.TheVariants as items
use Rattle.dns_rdata_zone.specs.{Lists.commas, Spellings.escaped, Spellings.item_octet, Spellings.protocol_octet}
use Rattle.dns_rdata_zone.specs.Parameters.{key_name, named_key, protocol, rises_from}
use Rattle.dns_rdata_zone.proofs.{Dividing.is_run_octet, Dividing.AreRunOctets, Dividing.run_both, Letters.first_true, Letters.second_true, ParameterForms.zone_key}
use Rattle.dns_rdata_zone.proofs.ParameterForms.{key_is, AreItemOctets, item_run, name_items}
use Rattle.dns_rdata_zone.proofs.{RowForms.bytes_of, RowForms.bounded, TokenForms.text_form}

-- ---- texts of values

-- octets that need no escape
run_slash : (c : ℕ) → is_run_octet c ≡ true → eqb c 92 ≡ false
run_slash c h = grind (arith, nat_tests)

plain_letters : (s : List ℕ) → AreRunOctets s → letters s ≡ map plain s
plain_letters [] h = refl
plain_letters (c ∷ s) h = rw (run_slash c h.0) (ap (λ (l : List Letter). plain c ∷ l) (plain_letters s h.1))

plain_octets : (s : List ℕ) → map octet_of (map plain s) ≡ s
plain_octets [] = refl
plain_octets (c ∷ s) = ap (λ (t : List ℕ). c ∷ t) (plain_octets s)

plain_escapes : (s : List ℕ) → AreRunOctets s → escapes_stand s ≡ true
plain_escapes [] h = refl
plain_escapes (c ∷ s) h = rw (run_slash c h.0) (plain_escapes s h.1)

no_slash : (s : List ℕ) → AreRunOctets s → AllByRecursion (λ c. eqb c 92 ≡ false) s
no_slash [] h = tt
no_slash (c ∷ s) h = (run_slash c h.0, no_slash s h.1)

-- a value whose text needs no escape
pub plain_value : (key : SvcParamKey) (s octets : List ℕ) → AreRunOctets s → HasOctets key s octets → length octets < 2 ^ 16 → IsValue key s octets
plain_value key s octets h has fits = record {
  plain = λ _. no_slash s h;
  escapes = plain_escapes s h;
  has = subst (λ (t : List ℕ). HasOctets key t octets) (sym (ap (map octet_of) (plain_letters s h) ∙ plain_octets s)) has;
  fits = fits;
}

-- a value whose text was escaped, of a key that does not forbid it
pub escaped_value : (key : SvcParamKey) (s octets : List ℕ) → forbids_escapes key ≡ false → AreOctets s → HasOctets key s octets → length octets < 2 ^ 16
    → IsValue key (flat_map escaped s) octets
escaped_value key s octets free h has fits =
    let form = text_form true s h in
    record {
      plain = λ forbidden. absurd (cc (forbidden, free));
      escapes = form.escapes;
      has = subst (λ (t : List ℕ). HasOctets key t octets) form.value has;
      fits = fits;
    }

-- ---- lists whose items have no comma and no `\`

-- items with a comma between two
commas_joined : {X : Type 0} (f : X → List ℕ) (xs : List X) → commas f xs ≡ join_with_byte 44 (map f xs)
commas_joined f [] = refl
commas_joined f (x ∷ []) = append-nil (f x)
commas_joined f (x ∷ y ∷ xs) = ap (λ (t : List ℕ). f x ++ 44 ∷ t) (commas_joined f (y ∷ xs))

some_mapped : {X : Type 0} (f : X → List ℕ) (xs : List X) → xs ≢ [] → map f xs ≢ []
some_mapped f [] some e = some refl
some_mapped f (x ∷ xs) some e = absurd (cc e)

plain_item : (s : List ℕ) → AreItemOctets s → IsPlainItem s
plain_item [] h = tt
plain_item (c ∷ s) h = ((λ e. apart c 44 h.0.1 e, λ e. apart c 92 (run_slash c h.0.0) e), plain_item s h.1) where
  apart : (a b : ℕ) → eqb a b ≡ false → a ≢ b
  apart a b h e = grind (arith, nat_tests)

pub commas_are : {X : Type 0} (f : X → List ℕ) (xs : List X) → xs ≢ [] → AllByRecursion (λ y. AreItemOctets (f y)) xs → items_in (commas f xs) ≡ map f xs
commas_are f xs some h = ap items_in (commas_joined f xs) ∙ plain_items (map f xs) (some_mapped f xs some) (each xs h) where
  each : (xs : List _) → AllByRecursion (λ y. AreItemOctets (f y)) xs → AllByRecursion IsPlainItem (map f xs)
  each [] h = tt
  each (x ∷ xs) h = (plain_item (f x) h.0, each xs h.1)

further_run : {X : Type 0} (f : X → List ℕ) (xs : List X) → AllByRecursion (λ y. AreItemOctets (f y)) xs → AreRunOctets (flat_map (λ y. codes "," ++ f y) xs)
further_run f [] h = tt
further_run f (x ∷ xs) h = (refl, run_both (f x) (flat_map (λ y. codes "," ++ f y) xs) (item_run (f x) h.0) (further_run f xs h.1))

pub commas_run : {X : Type 0} (f : X → List ℕ) (xs : List X) → AllByRecursion (λ y. AreItemOctets (f y)) xs → AreRunOctets (commas f xs)
commas_run f [] h = tt
commas_run f (x ∷ xs) h = run_both (f x) (flat_map (λ y. codes "," ++ f y) xs) (item_run (f x) h.0) (further_run f xs h.1)

-- ---- names of protocols

abbrev pub item_text : List ℕ → List ℕ
item_text name = flat_map item_octet name

pub names_list : (names : List (List ℕ)) → names ≢ [] → AllByRecursion IsProtocolName names
    → IsList items.Protocol (commas item_text names) (flat_map string names)
names_list names some h =
    subst (λ (t : List ℕ). IsList items.Protocol t (flat_map string names)) (sym (commas_joined item_text names)) (names_read names some h)

one_of_two : (b : Bool) (c : ℕ) → c < 256 → AreOctets (cond b (92 ∷ c ∷ []) (c ∷ []))
one_of_two true c h = All-cons (λ x. x < 256) 92 (c ∷ []) (omega arith) (All-cons (λ x. x < 256) c [] h (All-nil (λ x. x < 256)))
one_of_two false c h = All-cons (λ x. x < 256) c [] h (All-nil (λ x. x < 256))

item_octets : (name : List ℕ) → AreOctets name → AreOctets (item_text name)
item_octets [] h = h
item_octets (c ∷ name) h = All-append (λ x. x < 256) (item_octet c) (item_text name) (one_of_two (eqb c 44 || eqb c 92) c (All-head (λ x. x < 256) c name h))
    (item_octets name (All-tail (λ x. x < 256) c name h))

further_octets : (names : List (List ℕ)) → AllByRecursion AreOctets names → AreOctets (flat_map (λ s. codes "," ++ item_text s) names)
further_octets [] h = All-nil (λ x. x < 256)
further_octets (s ∷ names) h = All-cons (λ x. x < 256) 44 (item_text s ++ flat_map (λ x. codes "," ++ item_text x) names) (omega arith)
    (All-append (λ x. x < 256) (item_text s) (flat_map (λ x. codes "," ++ item_text x) names) (item_octets s h.0) (further_octets names h.1))

pub list_octets : (names : List (List ℕ)) → AllByRecursion AreOctets names → AreOctets (commas item_text names)
list_octets [] h = All-nil (λ x. x < 256)
list_octets (s ∷ names) h =
    All-append (λ x. x < 256) (item_text s) (flat_map (λ x. codes "," ++ item_text x) names) (item_octets s h.0) (further_octets names h.1)

protocol_spelled : (name : List ℕ) → protocol name ≡ flat_map escaped (item_text name)
protocol_spelled [] = refl
protocol_spelled (c ∷ name) = ap (λ (t : List ℕ). protocol_octet c ++ t) (protocol_spelled name) ∙ sym (flat_map-append escaped (item_octet c) (item_text name))

further_spelled : (names : List (List ℕ)) → flat_map (λ s. codes "," ++ protocol s) names ≡ flat_map escaped (flat_map (λ s. codes "," ++ item_text s) names)
further_spelled [] = refl
further_spelled (s ∷ names) =
    ap (λ (t : List ℕ). 44 ∷ (t ++ flat_map (λ x. codes "," ++ protocol x) names)) (protocol_spelled s)
    ∙ ap (λ (t : List ℕ). 44 ∷ (flat_map escaped (item_text s) ++ t)) (further_spelled names)
    ∙ ap (λ (t : List ℕ). 44 ∷ t) (sym (flat_map-append escaped (item_text s) (flat_map (λ x. codes "," ++ item_text x) names)))

pub list_spelled : (names : List (List ℕ)) → commas protocol names ≡ flat_map escaped (commas item_text names)
list_spelled [] = refl
list_spelled (s ∷ names) =
    ap (λ (t : List ℕ). t ++ flat_map (λ x. codes "," ++ protocol x) names) (protocol_spelled s)
    ∙ ap (λ (t : List ℕ). flat_map escaped (item_text s) ++ t) (further_spelled names)
    ∙ sym (flat_map-append escaped (item_text s) (flat_map (λ x. codes "," ++ item_text x) names))

-- ---- keys

-- strictly above the last one
abbrev pub Above : ℕ → List ℕ → Type 0
Above last [] = Unit {0}
Above last (n ∷ ns) = (last < n) × Above n ns

pub rises_above : (last : ℕ) (ns : List ℕ) → rises_from last ns ≡ true → Above last ns × AllByRecursion (λ n. n < 65535) ns
rises_above last [] h = (tt, tt)
rises_above last (n ∷ ns) h =
    let more : nat_lt n 65535 && rises_from n ns ≡ true = second_true (nat_lt last n) (nat_lt n 65535 && rises_from n ns) h in
    let above : nat_lt last n ≡ true = first_true (nat_lt last n) (nat_lt n 65535 && rises_from n ns) h in
    let below : nat_lt n 65535 ≡ true = first_true (nat_lt n 65535) (rises_from n ns) more in
    let rest = rises_above n ns (second_true (nat_lt n 65535) (rises_from n ns) more) in
    ((grind (arith, nat_tests), rest.0), (grind (arith, nat_tests), rest.1))

increasing : (last : ℕ) (ns : List ℕ) → Above last ns → IsStrictlyIncreasing ns
increasing last [] h k lt = absurd (omega (arith, lt))
increasing last (n ∷ []) h k lt = absurd (omega (arith, lt))
increasing last (n ∷ m ∷ ns) h zero lt = h.1.0
increasing last (n ∷ m ∷ ns) h (suc k) lt =
    let one : k + 1 ≡ suc k = omega arith in
    let two : suc k + 1 ≡ suc (suc k) = omega arith in
    subst (λ (j : ℕ). slice_index (n ∷ m ∷ ns) (suc k) < slice_index (n ∷ m ∷ ns) j) (sym two)
    (subst (λ (j : ℕ). slice_index (m ∷ ns) k < slice_index (m ∷ ns) j) one (increasing n (m ∷ ns) h.1 k (omega (arith, lt))))

each_key : (last : ℕ) (ks : List SvcParamKey) → Above last (map key_number ks) → AllByRecursion (λ n. n < 65535) (map key_number ks)
    → AllZip IsListedKey (map named_key ks) (map key_number ks)
each_key last [] h low = tt
each_key last (k ∷ ks) h low =
    let own = key_is (key_number k) low.0 in
    (record { key = zone_key (key_number k); named = own.spelled.named; number = sym own.number; other = λ e. above_not_zero (key_number k) last h.0 e }, each_key (key_number k) ks h.1 low.1) where
      above_not_zero : (n m : ℕ) → m < n → n ≡ 0 → ⊥
      above_not_zero n m lt e = omega (arith, lt, e)

abbrev is_item_octet : ℕ → Bool
is_item_octet c = is_run_octet c && not (eqb c 44)

comma_tested : (s : List ℕ) → list_all is_item_octet s ≡ true → AreItemOctets s
comma_tested [] h = tt
comma_tested (c ∷ s) h =
    (item_is c (first_true (is_item_octet c) (list_all is_item_octet s) h), comma_tested s (second_true (is_item_octet c) (list_all is_item_octet s) h)) where
      item_is : (c : ℕ) → is_item_octet c ≡ true → (is_run_octet c ≡ true) × (eqb c 44 ≡ false)
      item_is c h = (first_true (is_run_octet c) (not (eqb c 44)) h, (let other = second_true (is_run_octet c) (not (eqb c 44)) h in grind (arith, nat_tests)))

digit_item : (c : ℕ) → 48 ≤ c → c ≤ 58 → (is_run_octet c ≡ true) × (eqb c 44 ≡ false)
digit_item c low high = (grind (arith, nat_tests), grind (arith, nat_tests))

item_both : (a b : List ℕ) → AreItemOctets a → AreItemOctets b → AreItemOctets (a ++ b)
item_both [] b h k = k
item_both (c ∷ a) b h k = (h.0, item_both a b h.1 k)

keys_items : (ks : List SvcParamKey) → AllByRecursion (λ n. n < 65535) (map key_number ks) → AllByRecursion (λ k. AreItemOctets (named_key k)) ks
keys_items [] h = tt
keys_items (k ∷ ks) h = (name_items (key_name (key_number k)) (key_is (key_number k) h.0).spelled.octets, keys_items ks h.1)

pub keys_run : (ks : List SvcParamKey) → AllByRecursion (λ n. n < 65535) (map key_number ks) → AreRunOctets (commas named_key ks)
keys_run ks h = commas_run named_key ks (keys_items ks h)

pub keys_list : (ks : List SvcParamKey) → ks ≢ [] → Above 0 (map key_number ks) → AllByRecursion (λ n. n < 65535) (map key_number ks)
    → IsKeyList (commas named_key ks) (flat_map (bytes_high_first 2) (map key_number ks))
keys_list ks some above low = record {
  keys = map key_number ks;
  each = subst (λ (l : List (List ℕ)). AllZip IsListedKey l (map key_number ks)) (sym (commas_are named_key ks some (keys_items ks low))) (each_key 0 ks above low);
  order = map key_number ks;
  same = IsPermutation-refl (map key_number ks);
  rising = increasing 0 (map key_number ks) above;
  joined = refl;
}

-- ---- addresses

dotted_item : (c : ℕ) → IsDigitOrDot c → (is_run_octet c ≡ true) × (eqb c 44 ≡ false)
dotted_item c (inl h) = digit_item c (omega (arith, h)) (omega (arith, h))
dotted_item c (inr h) = (rw h refl, rw h refl)

group_item : (c : ℕ) → IsHexOrColon c → (is_run_octet c ≡ true) × (eqb c 44 ≡ false)
group_item c (inl h) = let low = h.0 in let high = h.1 in (grind (arith, nat_tests), grind (arith, nat_tests))
group_item c (inr h) = let low = h.0 in let high = h.1 in (grind (arith, nat_tests), grind (arith, nat_tests))

items_all : (P : ℕ → Type 0) → ((c : ℕ) → P c → (is_run_octet c ≡ true) × (eqb c 44 ≡ false)) → (s : List ℕ) → All P s → AreItemOctets s
items_all P f [] h = tt
items_all P f (c ∷ s) h = (f c (All-head P c s h), items_all P f s (All-tail P c s h))

dotted_items : (o : List ℕ) → ((k : ℕ) → get_or o k 0 < 2 ^ 8) → AreItemOctets (ipv4_text o)
dotted_items o fits = items_all IsDigitOrDot dotted_item (ipv4_text o) (All-ipv4_text o fits)

one_items : (b : Bool) (x y : List ℕ) → AreItemOctets x → AreItemOctets y → AreItemOctets (cond b x y)
one_items true x y h k = h
one_items false x y h k = k

segments_items : (s : List ℕ) → AllSegments s → AreItemOctets (ipv6_text s)
unfolding ipv6_text
segments_items s fits =
    one_items (bytes_eq (take 6 s) (0 ∷ 0 ∷ 0 ∷ 0 ∷ 0 ∷ 65535 ∷ [])) (codes "::ffff:" ++ ipv4_text (octets_of (drop 6 s))) (hex_groups_text s)
    (item_both (codes "::ffff:") (ipv4_text (octets_of (drop 6 s))) (comma_tested (codes "::ffff:") refl)
    (dotted_items (octets_of (drop 6 s)) (bounded (drop 6 s) (AllSegments-drop 6 s fits))))
    (items_all IsHexOrColon group_item (hex_groups_text s) (All-hex_groups_text s fits))

items4 : (xs : List A) → AllByRecursion (λ a. IsIpv4Addr a.0) xs → AllByRecursion (λ a. AreItemOctets (a_text a)) xs
items4 [] h = tt
items4 (a ∷ xs) h = (dotted_items (ipv4_octets a.0) h.0.1, items4 xs h.1)

items6 : (xs : List AAAA) → AllByRecursion (λ a. IsIpv6Addr a.0) xs → AllByRecursion (λ a. AreItemOctets (aaaa_text a)) xs
items6 [] h = tt
items6 (a ∷ xs) h = (segments_items (ipv6_segments a.0) h.0.1, items6 xs h.1)

each4 : (xs : List A) → AllByRecursion (λ a. IsIpv4Addr a.0) xs → AllZip (IsItem items.Ipv4) (map a_text xs) (map a_octets xs)
each4 [] h = tt
each4 (a ∷ xs) h = ((ipv4_back a.0 h.0).is, each4 xs h.1)

each6 : (xs : List AAAA) → AllByRecursion (λ a. IsIpv6Addr a.0) xs → AllZip (IsItem items.Ipv6) (map aaaa_text xs) (map aaaa_octets xs)
each6 [] h = tt
each6 (a ∷ xs) h = ((ipv6_back a.0 h.0).is, each6 xs h.1)

pub hints4_run : (xs : List A) → AllByRecursion (λ a. IsIpv4Addr a.0) xs → AreRunOctets (commas a_text xs)
hints4_run xs h = commas_run a_text xs (items4 xs h)

pub hints4_list : (xs : List A) → xs ≢ [] → AllByRecursion (λ a. IsIpv4Addr a.0) xs → IsList items.Ipv4 (commas a_text xs) (flat_map (λ s. s) (map a_octets xs))
hints4_list xs some h = record {
  parts = map a_octets xs;
  each = subst (λ (l : List (List ℕ)). AllZip (IsItem items.Ipv4) l (map a_octets xs)) (sym (commas_are a_text xs some (items4 xs h))) (each4 xs h);
  joined = refl;
}

pub hints6_run : (xs : List AAAA) → AllByRecursion (λ a. IsIpv6Addr a.0) xs → AreRunOctets (commas aaaa_text xs)
hints6_run xs h = commas_run aaaa_text xs (items6 xs h)

pub hints6_list : (xs : List AAAA) → xs ≢ [] → AllByRecursion (λ a. IsIpv6Addr a.0) xs
    → IsList items.Ipv6 (commas aaaa_text xs) (flat_map (λ s. s) (map aaaa_octets xs))
hints6_list xs some h = record {
  parts = map aaaa_octets xs;
  each = subst (λ (l : List (List ℕ)). AllZip (IsItem items.Ipv6) l (map aaaa_octets xs)) (sym (commas_are aaaa_text xs some (items6 xs h))) (each6 xs h);
  joined = refl;
}

-- ---- numbers and octets

pub port_is : (n : ℕ) → n < 2 ^ 16 → IsPort (decimal n) (bytes_high_first 2 n)
port_is n h = let num = decimal_is_IsNumeral n (omega (arith, h)) in
    record { digits = num.0; fits = rw num.1 h; value = ap (bytes_high_first 2) (sym num.1) }

pub ech_is : (s : List ℕ) → AreOctets s → decode_of standard (encode_of standard s) ≡ Ok s
ech_is s h = decode_of-encode_of standard s (search rules) (bytes_of s h)
