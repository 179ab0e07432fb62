-- Parameters that were written are read as they were.
use Rattle.std.proofs.Common.{◌≡◌, ◌≢◌, ◌⊎◌, ℕ, suc, get_or, ◌+◌, ◌^◌, ◌<◌, ◌≤◌, Bool, true, false, cond, eqb, ◌&&◌, nat_lt, List, [], ◌∷◌, ◌++◌}
use Rattle.std.proofs.Common.{length, drop, decimal, codes, refl, sym, ap, subst, append_assoc, arith, inl, inr, lt-ltb, le-ltb}
use Rattle.std.specs.{Prelude.not, List.AllByRecursion, List.list_all, List.position_or_len, Str.Parse.digits_value}
use Rattle.std.proofs.{lemmas.Bool.Decides.nat_tests, lemmas.Bool.cases_lt, lemmas.Fmt.decimal_is_IsNumeral, lemmas.Str.Parse.digit_at}
use Rattle.std.proofs.lemmas.List.{take_all, drop_all}
use Rattle.dns_tokens.proofs.Printed.{number_back}
use Rattle.dns_rdata_zone.proofs.{Letters.first_true, Letters.second_true, Dividing.plain_divided, Dividing.InQuotes, Dividing.joined_divided}
use Rattle.dns_rdata_zone.proofs.Dividing.{AreDivided, bare_token, quoted_token, is_run_octet, AreRunOctets, run_both, run_printable, begins_plain}
use Rattle.dns_rdata_zone.proofs.RowForms.{bare_unmarked, run_first}
use Rattle.dns_zone_tokens.specs.Tokens.{Token}
use Rattle.dns_rdata_service.specs.SvcParamKey.{key_number, key_variant, key_of, key_text}
use Rattle.dns_rdata_service.specs.declared.svcb.key.SvcParamKey.{SvcParamKey}
use Rattle.dns_rdata_service.specs.declared.svcb.key.SvcParamKey.TheVariants.{Key, Key65535, Unknown}
use Rattle.dns_rdata_service.proofs.SvcbValues.{key_number-of}
use Rattle.dns_zone_rows.specs.{ParameterKeys.IsKeyName, ParameterLaws.HasNoEquals, ParameterValues.IsValue}
use Rattle.dns_zone_rows.specs.Parameters.{Parameter, is_equals, IsParameter}
use Rattle.dns_zone_rows.proofs.WrittenTokens.{tokens_read}
use Rattle.dns_rdata_zone.specs.{Parameters.key_name, ZoneGives.AreUnmarked}

-- ---- octets of names and items

-- they need no escape in a token, and are no comma
abbrev pub AreItemOctets : List ℕ → Type 0
AreItemOctets s = AllByRecursion (λ c. (is_run_octet c ≡ true) × (eqb c 44 ≡ false)) s

pub item_run : (s : List ℕ) → AreItemOctets s → AreRunOctets s
item_run [] h = tt
item_run (c ∷ s) h = (h.0.0, item_run s h.1)

-- nor an `=`
abbrev pub AreNameOctets : List ℕ → Type 0
AreNameOctets s = AllByRecursion (λ c. (is_run_octet c ≡ true) × (eqb c 44 ≡ false) × (c ≢ 61)) s

pub name_items : (s : List ℕ) → AreNameOctets s → AreItemOctets s
name_items [] h = tt
name_items (c ∷ s) h = ((h.0.0, h.0.1), name_items s h.1)

name_whole : (s : List ℕ) → AreNameOctets s → HasNoEquals s
name_whole [] h = tt
name_whole (c ∷ s) h = (h.0.2, name_whole s h.1)

name_run : (s : List ℕ) → AreNameOctets s → AreRunOctets s
name_run s h = item_run s (name_items s h)

-- ---- parameters by their shapes

-- the text is tokens that are this parameter
pub record ParameterText (text : List ℕ) (p : Parameter) : Type 0 where
  pub tokens : List Token
  pub divided : AreDivided text tokens
  pub is : IsParameter p tokens
  pub unmarked : AreUnmarked tokens

-- a name of a key, as it is written
pub record IsSpelled (key : SvcParamKey) (name : List ℕ) : Type 0 where
  pub some : name ≢ []
  pub octets : AreNameOctets name
  pub named : IsKeyName key name

-- the name is that of the key of this number
pub record IsKeyOf (name : List ℕ) (key : SvcParamKey) (n : ℕ) : Type 0 where
  pub spelled : IsSpelled key name
  pub number : key_number key ≡ n

equals_some : (name s : List ℕ) → name ++ 61 ∷ s ≢ []
equals_some [] s e = absurd (cc e)
equals_some (c ∷ name) s e = absurd (cc e)

equals_run : (name s : List ℕ) → AreRunOctets name → AreRunOctets s → AreRunOctets (name ++ 61 ∷ s)
equals_run name s h k = run_both name (61 ∷ s) h (refl, k)

-- a key alone
pub alone_text : (n : ℕ) (key : SvcParamKey) (name octets : List ℕ) → IsKeyOf name key n → IsValue key [] octets → ParameterText name (n, octets)
alone_text n key name octets k v = let h = k.spelled in let at = position_or_len is_equals name in record {
  tokens = bare_token name ∷ [];
  divided = plain_divided name h.some run;
  is = record {
    name = name;
    value = [];
    written = (record { bare = refl; apart = refl }, sym (take_all at name (omega (arith, past))), sym (drop_all (at + 1) name (omega (arith, past))));
    has = record { key = key; named = h.named; number = sym k.number; octets = v };
  };
  unmarked = bare_unmarked name (run_first name h.some run);
}
  where
    run : AreRunOctets name
    run = name_run name k.spelled.octets

    none : (s : List ℕ) → HasNoEquals s → position_or_len is_equals s ≡ length s
    none [] h = refl
    none (c ∷ s) h = let other = h.0 in let e : eqb c 61 ≡ false = grind (arith, nat_tests) in rw e (omega (arith, none s h.1))

    past : position_or_len is_equals name ≡ length name
    past = none name (name_whole name k.spelled.octets)

-- a value without quotes
pub bare_text : (n : ℕ) (key : SvcParamKey) (name s octets : List ℕ) → IsKeyOf name key n → AreRunOctets s → IsValue key s octets
    → ParameterText (name ++ 61 ∷ s) (n, octets)
bare_text n key name s octets own k v =
    let h = own.spelled in
    let text = name ++ 61 ∷ s in
    let run = equals_run name s (name_run name h.octets) k in
    record {
      tokens = bare_token text ∷ [];
      divided = plain_divided text (equals_some name s) run;
      is = (tokens_read name s (n, octets) (name_whole name h.octets) (record { key = key; named = h.named; number = sym own.number; octets = v })).0;
      unmarked = bare_unmarked text (run_first text (equals_some name s) run);
    }

-- a value in quotes
pub enclosed_text : (n : ℕ) (key : SvcParamKey) (name s octets : List ℕ) → IsKeyOf name key n → InQuotes s → IsValue key s octets
    → ParameterText (name ++ 61 ∷ 34 ∷ (s ++ 34 ∷ [])) (n, octets)
enclosed_text n key name s octets own k v =
    let h = own.spelled in
    let front = name ++ 61 ∷ [] in
    let run = equals_run name [] (name_run name h.octets) tt in
    record {
      tokens = bare_token front ∷ quoted_token true s ∷ [];
      divided = subst (λ (t : List ℕ). AreDivided t (bare_token front ∷ quoted_token true s ∷ [])) (append_assoc name (61 ∷ []) (34 ∷ (s ++ 34 ∷ [])))
          (joined_divided front s (begins_plain front (equals_some name []) run) (run_printable front run) k);
      is = (tokens_read name s (n, octets) (name_whole name h.octets) (record { key = key; named = h.named; number = sym own.number; octets = v })).1;
      unmarked = bare_unmarked front (run_first front (equals_some name []) run);
    }

-- ---- keys

abbrev is_name_octet : ℕ → Bool
is_name_octet c = is_run_octet c && (not (eqb c 44) && not (eqb c 61))

name_tested : (s : List ℕ) → list_all is_name_octet s ≡ true → AreNameOctets s
name_tested [] h = tt
name_tested (c ∷ s) h = (
  name_octet c (first_true (is_name_octet c) (list_all is_name_octet s) h),
  name_tested s (second_true (is_name_octet c) (list_all is_name_octet s) h),
)
  where
    name_octet : (c : ℕ) → is_name_octet c ≡ true → (is_run_octet c ≡ true) × (eqb c 44 ≡ false) × (c ≢ 61)
    name_octet c h =
        let other = second_true (is_run_octet c) (not (eqb c 44) && not (eqb c 61)) h in
        (first_true (is_run_octet c) (not (eqb c 44) && not (eqb c 61)) h, grind (arith, nat_tests), λ e. absurd (grind (arith, nat_tests)))

decimal_name : (n : ℕ) → n < 2 ^ 64 → AreNameOctets (decimal n)
decimal_name n small =
    let own = decimal_is_IsNumeral n small in
    by_index (decimal n) (λ k lt. let digit = digit_at (decimal n) k own.0.1 lt in name_digit (get_or (decimal n) k 0) (omega (arith, digit)) (omega (arith, digit)))
  where
    name_digit : (c : ℕ) → 48 ≤ c → c ≤ 57 → (is_run_octet c ≡ true) × (eqb c 44 ≡ false) × (c ≢ 61)
    name_digit c low high = (grind (arith, nat_tests), grind (arith, nat_tests), λ e. omega arith)

    by_index : (s : List ℕ) → ((k : ℕ) → k < length s → (is_run_octet (get_or s k 0) ≡ true) × (eqb (get_or s k 0) 44 ≡ false) × (get_or s k 0 ≢ 61))
        → AreNameOctets s
    by_index [] h = tt
    by_index (c ∷ s) h = (h 0 (omega arith), by_index s (λ k lt. h (suc k) (omega arith)))

-- a key with a name of its own
own_spelled : (key : SvcParamKey) → key_variant key ≤ 7 → IsSpelled key (key_text key)
unfolding key_text
own_spelled (Key n) h = absurd (omega arith)
own_spelled Key65535 h = absurd (omega arith)
own_spelled (Unknown n) h = absurd (omega arith)
own_spelled key h = record {
  some = λ e. absurd (cc e);
  octets = name_tested (key_text key) refl;
  named = record { text = refl; printed = refl; valid = λ e. absurd (cc e) };
}

-- `key` and a number
number_spelled : (n : ℕ) → n < 65535 → IsSpelled (Key n) (codes "key" ++ decimal n)
unfolding key_text
number_spelled n h = record {
  some = λ e. absurd (cc e);
  octets = (all_tested.0, (all_tested.1.0, (all_tested.1.1.0, decimal_name n (omega (arith, h)))));
  named = record {
    text = (record { digits = decimal n; spelled = refl; number = (number_back 2 n (omega (arith, h)) (omega (arith, h))).is }, other);
    printed = refl;
    valid = λ e. absurd (cc e);
  };
}
  where
    all_tested : AreNameOctets (codes "key")
    all_tested = name_tested (codes "key") refl

    other : codes "key" ++ decimal n ≢ key_text Key65535
    other e =
        let value : digits_value 10 (decimal n) ≡ 65535 = ap (λ (s : List ℕ). digits_value 10 (drop 3 s)) e in
        let own = (decimal_is_IsNumeral n (omega (arith, h))).1 in
        omega (arith, h, value, own)

-- the key that a name of a number is read as
abbrev pub zone_key : ℕ → SvcParamKey
zone_key n = cond (nat_lt n 7) (key_of n) (Key n)

low_named : (n : ℕ) → n < 7 → key_variant (key_of n) ≤ 7
unfolding key_of
low_named n h = grind (arith, nat_tests, h)

pub key_is : (n : ℕ) → n < 65535 → IsKeyOf (key_name n) (zone_key n) n
key_is n h = by_number (cases_lt n 7) where
  by_number : (n < 7) ⊎ (7 ≤ n) → IsKeyOf (key_name n) (zone_key n) n
  by_number (inl low) = rw (lt-ltb n 7 low) (record { spelled = own_spelled (key_of n) (low_named n low); number = key_number-of n })
  by_number (inr high) = rw (le-ltb n 7 high) (record { spelled = number_spelled n h; number = refl })
