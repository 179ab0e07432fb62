-- A name is of one key at most, and which texts of a key are its names.
use Rattle.std.proofs.Common.{◌≡◌, ◌≢◌, ◌≤◌, ℕ, arith, List, ◌++◌, drop, refl, sym, ◌∙◌, ap, subst, inl, inr, ◌⊎◌, ◌<◌, ◌^◌, length, get_or, length-drop}
use Rattle.std.specs.{Prelude.codes, Str.IsUtf8, Str.Parse.AllDigits, Str.Parse.digits_value, Str.Parse.without_leading_plus, Fmt.decimal}
use Rattle.std.proofs.lemmas.Str.Parse.{IsNumeralModel, without_leading_plus_none, without_leading_plus_plus, digit_at}
use Rattle.std.proofs.lemmas.Fmt.{decimal-digits_value, decimal_is_IsNumeral, decimal_digit, first_decimal, IsAscii-decimal}
use Rattle.std.proofs.lemmas.{Bool.cases_lt, Str.IsUtf8-append, Str.IsUtf8-from_ascii}
use Rattle.dns_tokens.specs.Forms.{IsNumberToken}
use Rattle.dns_rdata_service.specs.{SvcParamKey.key_text, ParameterTokens.IsKeyText, ParameterTokens.IsNumberedKey, declared.svcb.key.SvcParamKey.SvcParamKey}
use Rattle.dns_rdata_service.specs.declared.svcb.key.SvcParamKey.TheVariants.{Key, Key65535, Unknown}
use Rattle.dns_rdata_service.proofs.ParameterTokens.{key_one}
use Rattle.dns_zone_rows.specs.{ParameterKeys.IsKeyName, ParameterSteps.IsShortest}
use Rattle.dns_zone_tokens.proofs.TextSteps.{ascii_utf8}

-- a name is of one key
pub key_once : (a b : SvcParamKey) (name : List ℕ) → IsKeyName a name → IsKeyName b name → a ≡ b
key_once a b name x y = key_one name a b x.text y.text

-- if a text of the key is no name of it, the text is no name
pub other_key : (key other : SvcParamKey) (name : List ℕ) → IsKeyText name key → IsKeyName other name → IsKeyName key name
other_key key other name is own = subst (λ (k : SvcParamKey). IsKeyName k name) (key_one name other key own.text is) own

text_utf8 : (key : SvcParamKey) (name : List ℕ) → IsKeyText name key → IsUtf8 (key_text key)
unfolding key_text
text_utf8 (Key n) name is =
    let fits = is.0.number.fits in
    IsUtf8-append (codes "key") (decimal n) (ascii_utf8 (codes "key") refl) (IsUtf8-from_ascii (decimal n) (IsAscii-decimal n (omega arith)))
text_utf8 (Unknown n) name is = absurd is
text_utf8 key name is = ascii_utf8 _ refl

-- names are text
pub name_utf8 : (key : SvcParamKey) (name : List ℕ) → IsKeyName key name → IsUtf8 name
name_utf8 key name is = subst IsUtf8 (sym is.printed) (text_utf8 key name is.text)

-- ---- `key` and a number

digits_themselves : IsNumeralModel (AllDigits 10) (digits_value 10)
digits_themselves = record { to = λ ds h. h; from = λ ds h. h; same = λ ds h. refl }

-- digits without a `+` and without zeros before them are the number as it is printed
digits_printed : (n : ℕ) (digits : List ℕ) → IsNumberToken 16 n digits → IsShortest (codes "key" ++ digits) → digits ≡ decimal n
digits_printed n digits is short =
    let same = without_leading_plus_none digits (no_plus short) in
    let numeral = rw same at is.digits in
    let value = rw same at is.value in
    let fits = is.fits in
    sym (ap decimal value ∙ decimal-digits_value digits_themselves digits numeral.1 numeral.0 (no_zero short) (omega arith))
  where
    no_plus : IsShortest (codes "key" ++ digits) → get_or digits 0 0 ≢ 43
    no_plus (inl one) plus =
        let some : 0 < length (drop 1 digits) = subst (λ (ds : List ℕ). 0 < length ds) (without_leading_plus_plus digits plus) is.digits.0 in
        omega (arith, one, some, length-drop 1 digits)
    no_plus (inr more) plus = more.2 plus

    no_zero : IsShortest (codes "key" ++ digits) → get_or digits 0 0 ≡ 48 → length digits ≡ 1
    no_zero (inl one) zero_first = omega (arith, one)
    no_zero (inr more) zero_first = absurd (more.1 zero_first)

pub number_name : (n : ℕ) (name : List ℕ) → IsKeyText name (Key n) → IsShortest name → IsKeyName (Key n) name
unfolding key_text
number_name n name is short = record {
  text = is;
  printed = is.0.spelled
      ∙ ap (λ (ds : List ℕ). codes "key" ++ ds) (digits_printed n is.0.digits is.0.number (subst IsShortest is.0.spelled short));
  valid = λ e. absurd (cc e);
}

pub name_shortest : (n : ℕ) (name : List ℕ) → IsKeyName (Key n) name → IsShortest name
unfolding key_text
name_shortest n name is = subst IsShortest (sym is.printed) (by_length (cases_lt 1 (length (decimal n)))) where
  small : n < 2 ^ 64
  small = let fits = is.text.0.number.fits in omega arith

  not_zero : (0 < n) ⊎ (n ≤ 0) → 1 < length (decimal n) → get_or (decimal n) 0 0 ≢ 48
  not_zero (inl some) more e = let first = first_decimal n some small in omega (arith, first, e)
  not_zero (inr none) more e =
      let zero_it : n ≡ 0 = omega arith in
      let one : length (decimal n) ≡ 1 = ap (λ (m : ℕ). length (decimal m)) zero_it ∙ ap length (decimal_digit 0 (omega arith)) in
      omega (arith, more, one)

  by_length : (1 < length (decimal n)) ⊎ (length (decimal n) ≤ 1) → IsShortest (codes "key" ++ decimal n)
  by_length (inl more) =
      let own = decimal_is_IsNumeral n small in
      let digit = digit_at (decimal n) 0 own.0.1 own.0.0 in
      inr (omega (arith, more), not_zero (cases_lt 0 n) more, λ e. omega (arith, digit, e))
  by_length (inr less) = let some = (decimal_is_IsNumeral n small).0.0 in inl (omega (arith, less, some))

-- the key's own name
pub own_name : (key : SvcParamKey) (name : List ℕ) → IsKeyText name key → key ≢ Key65535 → ((n : ℕ) → key ≢ Key n) → IsKeyName key name
own_name (Key n) name is valid none = absurd (none n refl)
own_name (Unknown n) name is valid none = absurd is
own_name key name is valid none = record { text = is; printed = is; valid = valid }
