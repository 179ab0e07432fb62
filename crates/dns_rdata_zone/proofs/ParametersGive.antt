-- The parameters of a service that was written give their octets.
use Rattle.std.proofs.Common.{◌≡◌, ◌≢◌, ℕ, ◌^◌, ◌<◌, ◌≤◌, true, cond, eqb, nat_lt, List, [], ◌∷◌, ◌++◌, map, length, decimal, codes, refl, sym}
use Rattle.std.proofs.Common.{subst, arith, le-ltb}
use Rattle.std.specs.{Prelude.flat_map, Int.bytes_high_first, List.AllByRecursion, List.list_all}
use Rattle.std.proofs.{lemmas.Bool.Decides.nat_tests, lemmas.List.append-nil, lemmas.List.Sorted.IsPermutation-refl}
use Rattle.base64.specs.{Engines.standard, GeneralPurpose.encode_of}
use Rattle.dns_zone_rows.specs.{ParameterValues.HasOctets, ParameterLaws.IsProtocolName}
use Rattle.dns_zone_rows.specs.Parameters.{Parameter as Spelled, IsParameter, AreWritten, AreParameters}
use Rattle.dns_fields.specs.{Fields.parameter_tlvs, Octets.AreOctets}
use Rattle.dns_fields.specs.Tlvs.{Numbered, ParameterValue, string, tlvs, as_tlv, is_some, parameter_octets, Below, Rising}
use Rattle.dns_rdata_base.specs.{A.a_text, AAAA.aaaa_text}
use Rattle.dns_rdata_service.specs.{Parameters.Parameter, Parameters.parameter_of, SvcParamKey.is_unnamed, SvcParamKey.key_number, SvcParamKey.key_of, SvcParamValue.value_of, SvcParamValue.own_key}
use Rattle.dns_rdata_service.specs.{declared.svcb.key.SvcParamKey.SvcParamKey, declared.svcb.value.SvcParamValue.SvcParamValue}
use Rattle.dns_rdata_service.specs.declared.svcb.value.SvcParamValue.TheVariants.{Mandatory, Alpn, NoDefaultAlpn, Port, Ipv4Hint, EchConfigList}
use Rattle.dns_rdata_service.specs.declared.svcb.value.SvcParamValue.TheVariants.{Ipv6Hint, Unknown}
use Rattle.dns_zone_tokens.specs.Tokens.{Token}
use Rattle.dns_rdata_service.specs.declared.svcb.key.SvcParamKey.TheVariants as keys
use Rattle.dns_rdata_zone.specs.{Lists.commas, Spellings.escaped, Strings.quoted, ZoneGives.AreUnmarked}
use Rattle.dns_rdata_zone.specs.Parameters.{key_name, named_key, zone_value, zone_parameter, rises_from, is_number_of, value_has_text, has_text}
use Rattle.dns_rdata_zone.specs.Readable.{IsString, IsWritableValue, IsWritableParameter}
use Rattle.dns_rdata_zone.proofs.{Letters.first_true, Letters.second_true, RowForms.decimal_run, RestForms.base64_run}
use Rattle.dns_rdata_zone.proofs.Dividing.{AreDivided, divided_then, AreRunOctets, plain_quotes, spelled_quotes}
use Rattle.dns_rdata_zone.proofs.ParameterForms.{ParameterText, IsKeyOf, alone_text, bare_text, enclosed_text, zone_key, key_is}
use Rattle.dns_rdata_zone.proofs.ParameterValues.{plain_value, escaped_value, item_text, names_list, list_octets, list_spelled, rises_above}
use Rattle.dns_rdata_zone.proofs.ParameterValues.{keys_run, keys_list, hints4_run, hints4_list, hints6_run, hints6_list, port_is, ech_is}

-- the number is the one that the key's format needs
key_at : (m n : ℕ) (key : SvcParamKey) → m < 65535 → zone_key m ≡ key → eqb n m ≡ true → IsKeyOf (key_name n) key n
key_at m n key h e t =
    let same : n ≡ m = grind (arith, nat_tests) in
    subst (λ (k : ℕ). IsKeyOf (key_name k) key k) (sym same) (subst (λ (k : SvcParamKey). IsKeyOf (key_name m) k m) e (key_is m h))

numbered_at : (n : ℕ) → n < 65535 → 6 < n → IsKeyOf (key_name n) (keys.Key n) n
numbered_at n h above =
    let e : zone_key n ≡ keys.Key n = rw (le-ltb n 7 (omega arith)) refl in
    subst (λ (k : SvcParamKey). IsKeyOf (key_name n) k n) e (key_is n h)

-- there is one
pub some_there : {X : Type 0} (xs : List X) → is_some xs ≡ true → xs ≢ []
some_there [] h = absurd (cc h)
some_there (x ∷ xs) h = λ e. absurd (cc e)

-- octets of any number, with their key's number
opaque_at : (n : ℕ) (s : List ℕ) → n < 65535 → 6 < n → AreOctets s → length s < 2 ^ 16 → ParameterText (key_name n ++ 61 ∷ quoted s) (n, s)
opaque_at n s h above octets fits =
    enclosed_text n (keys.Key n) (key_name n) (flat_map escaped s) s (numbered_at n h above) (spelled_quotes s octets)
    (escaped_value (keys.Key n) s s refl octets (refl, λ e. absurd (cc e)) fits)

-- a value without quotes after its key
bare_behind : (n : ℕ) (key : SvcParamKey) (s octets : List ℕ) → IsKeyOf (key_name n) key n → AreRunOctets s → HasOctets key s octets
    → length octets < 2 ^ 16 → ParameterText (key_name n ++ 61 ∷ s) (n, octets)
bare_behind n key s octets own run has fits = bare_text n key (key_name n) s octets own run (plain_value key s octets run has fits)

names_are : (names : List (List ℕ)) → list_all is_some names ≡ true → AllByRecursion IsString names → AllByRecursion IsProtocolName names
names_are [] h k = tt
names_are (s ∷ names) h k = ((some_length s (some_there s (first_true (is_some s) (list_all is_some names) h)), (let fits = k.0.fits in omega (arith, fits))), names_are names (second_true (is_some s) (list_all is_some names) h) k.1) where
  some_length : (t : List ℕ) → t ≢ [] → 1 ≤ length t
  some_length [] none = absurd (none refl)
  some_length (c ∷ t) none = omega arith

names_octets : (names : List (List ℕ)) → AllByRecursion IsString names → AllByRecursion AreOctets names
names_octets [] h = tt
names_octets (s ∷ names) h = (h.0.octets, names_octets names h.1)

-- octets without a form, which may be none
unknown_behind : (n : ℕ) (s : List ℕ) → n < 65535 → 6 < n → AreOctets s → length s < 2 ^ 16
    → ParameterText (key_name n ++ cond (is_some s) (codes "=" ++ quoted s) []) (n, s)
unknown_behind n [] h above octets fits =
    subst (λ (t : List ℕ). ParameterText t (n, [])) (sym (append-nil (key_name n)))
    (alone_text n (keys.Key n) (key_name n) [] (numbered_at n h above) (plain_value (keys.Key n) [] [] tt (refl, λ e. absurd (cc e)) fits))
unknown_behind n (c ∷ s) h above octets fits = opaque_at n (c ∷ s) h above octets fits

unnamed_above : (n : ℕ) → is_unnamed (key_of n) ≡ true → 6 < n
unfolding key_of
unnamed_above n h = grind (arith, nat_tests, h)

-- the text of a value after its key's name
behind_key : (n : ℕ) (v : SvcParamValue) → value_has_text n v ≡ true → IsWritableValue v → length (parameter_octets (value_of v)) < 2 ^ 16
    → ParameterText (key_name n ++ zone_value v) (n, parameter_octets (value_of v))
unfolding key_of
behind_key n (Mandatory x) has h fits =
    let own : eqb n 0 ≡ true = first_true (eqb n 0) (rises_from 0 (map key_number x.0)) has in
    let above = rises_above 0 (map key_number x.0) (second_true (eqb n 0) (rises_from 0 (map key_number x.0)) has) in
    bare_behind n keys.Mandatory (commas named_key x.0) (parameter_octets (value_of (Mandatory x))) (key_at 0 n keys.Mandatory (omega arith) refl own)
    (keys_run x.0 above.1) (keys_list x.0 h.0 above.0 above.1) fits
behind_key n (Alpn x) has h fits =
    let own : eqb n 1 ≡ true = first_true (eqb n 1) (list_all is_some x.0) has in
    let names = names_are x.0 (second_true (eqb n 1) (list_all is_some x.0) has) h.1 in
    let octets_are = names_octets x.0 h.1 in
    let list = commas item_text x.0 in
    let octets = flat_map string x.0 in
    subst (λ (t : List ℕ). ParameterText (key_name n ++ 61 ∷ 34 ∷ (t ++ 34 ∷ [])) (n, octets)) (sym (list_spelled x.0))
    (enclosed_text n keys.Alpn (key_name n) (flat_map escaped list) octets (key_at 1 n keys.Alpn (omega arith) refl own) (spelled_quotes list (list_octets x.0 octets_are))
    (escaped_value keys.Alpn list octets refl (list_octets x.0 octets_are) (names_list x.0 h.0 names) fits))
behind_key n NoDefaultAlpn has h fits =
    subst (λ (t : List ℕ). ParameterText t (n, [])) (sym (append-nil (key_name n)))
    (alone_text n keys.NoDefaultAlpn (key_name n) [] (key_at 2 n keys.NoDefaultAlpn (omega arith) refl has)
    (plain_value keys.NoDefaultAlpn [] [] tt (refl, refl) fits))
behind_key n (Port p) has h fits =
    bare_behind n keys.Port (decimal p) (bytes_high_first 2 p) (key_at 3 n keys.Port (omega arith) refl has) (decimal_run p (omega (arith, h))) (port_is p h) fits
behind_key n (Ipv4Hint x) has h fits =
    let own : eqb n 4 ≡ true = first_true (eqb n 4) (is_some x.0) has in
    bare_behind n keys.Ipv4Hint (commas a_text x.0) (parameter_octets (value_of (Ipv4Hint x))) (key_at 4 n keys.Ipv4Hint (omega arith) refl own)
    (hints4_run x.0 h) (hints4_list x.0 (some_there x.0 (second_true (eqb n 4) (is_some x.0) has)) h) fits
behind_key n (EchConfigList x) has h fits =
    let own : eqb n 5 ≡ true = first_true (eqb n 5) (is_some x.0) has in
    let some : x.0 ≢ [] = some_there x.0 (second_true (eqb n 5) (is_some x.0) has) in
    let digits = encode_of standard x.0 in
    (enclosed_text n keys.EchConfigList (key_name n) digits x.0 (key_at 5 n keys.EchConfigList (omega arith) refl own) (plain_quotes digits (base64_run x.0 h))
    (plain_value keys.EchConfigList digits x.0 (base64_run x.0 h) (ech_is x.0 h, some) fits))
behind_key n (Ipv6Hint x) has h fits =
    let own : eqb n 6 ≡ true = first_true (eqb n 6) (is_some x.0) has in
    bare_behind n keys.Ipv6Hint (commas aaaa_text x.0) (parameter_octets (value_of (Ipv6Hint x))) (key_at 6 n keys.Ipv6Hint (omega arith) refl own)
    (hints6_run x.0 h) (hints6_list x.0 (some_there x.0 (second_true (eqb n 6) (is_some x.0) has)) h) fits
behind_key n (Unknown x) has h fits =
    let below : nat_lt n 65535 ≡ true = second_true (is_unnamed (key_of n)) (nat_lt n 65535) has in
    unknown_behind n x.0 (grind (arith, nat_tests)) (unnamed_above n (first_true (is_unnamed (key_of n)) (nat_lt n 65535) has)) h fits
behind_key n v has h fits =
    let own = first_true (is_number_of n (own_key v)) (is_some (parameter_octets (value_of v))) has in
    opaque_at n (parameter_octets (value_of v)) (grind (arith, nat_tests)) (grind (arith, nat_tests)) h fits

pub parameter_text : (p : Parameter) → has_text p ≡ true → IsWritableParameter p → ParameterText (zone_parameter p) (as_tlv parameter_octets (parameter_of p))
parameter_text p has h = behind_key (key_number p.0) p.1 has h.1 h.2

-- ---- all parameters

-- the texts, with a blank between two, are tokens that are these parameters
pub record ParametersText (text : List ℕ) (ps : List Spelled) : Type 0 where
  pub tokens : List Token
  pub divided : AreDivided text tokens
  pub are : AreWritten ps tokens
  pub unmarked : AreUnmarked tokens

unmarked_front : (a b : List Token) (p : Spelled) → IsParameter p a → AreUnmarked a → AreUnmarked (a ++ b)
unmarked_front [] b p h k = elim h.written [ ]
unmarked_front (w ∷ a) b p h k = k

pub parameters_text : (p : Parameter) (ps : List Parameter) → list_all has_text (p ∷ ps) ≡ true → AllByRecursion IsWritableParameter (p ∷ ps)
    → ParametersText (zone_parameter p ++ flat_map (λ q. codes " " ++ zone_parameter q) ps) (parameter_tlvs (map parameter_of (p ∷ ps)))
parameters_text p [] has h =
    let one = parameter_text p (first_true (has_text p) true has) h.0 in
    record {
      tokens = one.tokens;
      divided = subst (λ (t : List ℕ). AreDivided t one.tokens) (sym (append-nil (zone_parameter p))) one.divided;
      are = (one.tokens, [], sym (append-nil one.tokens), one.is, refl);
      unmarked = one.unmarked;
    }
parameters_text p (q ∷ ps) has h =
    let one = parameter_text p (first_true (has_text p) (list_all has_text (q ∷ ps)) has) h.0 in
    let rest = parameters_text q ps (second_true (has_text p) (list_all has_text (q ∷ ps)) has) h.1 in
    record {
      tokens = one.tokens ++ rest.tokens;
      divided = divided_then one.divided rest.divided;
      are = (one.tokens, rest.tokens, refl, one.is, rest.are);
      unmarked = unmarked_front one.tokens rest.tokens _ one.is one.unmarked;
    }

below_tlvs : (n : ℕ) (v : List (Numbered ParameterValue)) → Below n v → Below n (parameter_tlvs v)
below_tlvs n [] h = tt
below_tlvs n (x ∷ v) h = (h.0, below_tlvs n v h.1)

rising_tlvs : (v : List (Numbered ParameterValue)) → Rising v → Rising (parameter_tlvs v)
rising_tlvs [] h = tt
rising_tlvs (x ∷ v) h = (below_tlvs x.0 v h.0, rising_tlvs v h.1)

pub parameters_are : {tokens : List Token} (v : List (Numbered ParameterValue)) → Rising v → AreWritten (parameter_tlvs v) tokens
    → AreParameters (tlvs (parameter_tlvs v)) tokens
parameters_are v rising written = record {
  parameters = parameter_tlvs v;
  written = written;
  order = parameter_tlvs v;
  same = IsPermutation-refl (parameter_tlvs v);
  rising = rising_tlvs v rising;
  wire = refl;
}
