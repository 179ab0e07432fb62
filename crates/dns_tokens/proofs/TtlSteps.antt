-- The steps by which a time to live is read.
use Rattle.std.proofs.{lemmas.List.append-nil, lemmas.List.length-append, lemmas.List.length-drop, lemmas.List.drop_all, lemmas.List.drop_more, Common.cond}
use Rattle.std.proofs.lemmas.{Str.Parse.without_leading_plus_none, Str.Parse.digit_from_value, Result.OkIff-at_ok, Result.OkIff-at_err}
use Rattle.std.proofs.lemmas.Bool.{Decides.nat_tests, and_from}
use Rattle.std.proofs.Common.{◌≡◌, ℕ, ◌+◌, ◌*◌, ◌^◌, ◌<◌, ◌≤◌, true, false, List, [], ◌∷◌, ◌++◌, length, drop, get_or, Result, refl, sym, ◌∙◌, ap, subst, arith}
use Rattle.std.specs.{Str.Parse.IsNumeral, Str.Parse.AllDigits, Str.Parse.digits_value, Str.Parse.ParsesUnsigned, Str.Parse.without_leading_plus, Cmp.first_so}
use Rattle.std.specs.{Char.digit_value, Char.to_ascii_lowercase, Prelude.◌==◌, Prelude.Ok, Prelude.Err}
use Rattle.dns_tokens.specs.Ttl.{IsUnit.weeks, IsUnit.days, IsUnit.hours, IsUnit.minutes, IsUnit.seconds, IsUnit, Periods, IsTtl}
use Rattle.dns_tokens.specs.{Octets.is_digit, Octets.AllOf, Octets.BeginsOtherwise, Octets.Span, Ttl.Periods.unitless, Ttl.Periods.last, Ttl.Periods.next}
use Rattle.dns_tokens.proofs.TokenSteps.{span_one}

-- what the text gives is this and what more gives
pub record PeriodsFirst (front : ℕ) (text more : List ℕ) : Type 0 where
  pub gives : (sum : ℕ) → Periods more sum → Periods text (front + sum)
  pub only : (sum : ℕ) → Periods text sum → (later : ℕ) × (sum ≡ front + later) × Periods more later

digit_code : (c : ℕ) → digit_value c < 10 → is_digit c ≡ true
digit_code c h = let r = digit_from_value c h in let low : 48 ≤ c = r.0 in let high : c ≤ 57 = r.1 in grind (arith, nat_tests)

each_digit : (ds : List ℕ) → AllDigits 10 ds → AllOf is_digit ds
each_digit [] h = refl
each_digit (c ∷ cs) h = and_from _ _ (digit_code c h.0) (each_digit cs h.1)

-- the seconds of a unit, by its letter
seconds_of : ℕ → ℕ
seconds_of c = cond (c == 119) 604800 (cond (c == 100) 86400 (cond (c == 104) 3600 (cond (c == 109) 60 1)))

-- what holds of each unit
record UnitFacts (c factor : ℕ) : Type 0 where
  is : factor ≡ seconds_of (to_ascii_lowercase c)
  other : is_digit c ≡ false
  ascii : c < 128
  grows : (v : ℕ) → v ≤ v * factor

unit_facts : {c factor : ℕ} → IsUnit c factor → UnitFacts c factor
unfolding seconds_of
unit_facts (weeks e) = record { is = rw e refl; other = grind (arith, nat_tests); ascii = grind (arith, nat_tests); grows = λ v. omega arith }
unit_facts (days e) = record { is = rw e refl; other = grind (arith, nat_tests); ascii = grind (arith, nat_tests); grows = λ v. omega arith }
unit_facts (hours e) = record { is = rw e refl; other = grind (arith, nat_tests); ascii = grind (arith, nat_tests); grows = λ v. omega arith }
unit_facts (minutes e) = record { is = rw e refl; other = grind (arith, nat_tests); ascii = grind (arith, nat_tests); grows = λ v. omega arith }
unit_facts (seconds e) = record { is = rw e refl; other = grind (arith, nat_tests); ascii = grind (arith, nat_tests); grows = λ v. omega arith }

pub unit_one : {c factor other : ℕ} → IsUnit c factor → IsUnit c other → factor ≡ other
unit_one u v = (unit_facts u).is ∙ sym (unit_facts v).is

-- what stands behind the digits in front, and what that gives
pub data Behind (number : ℕ) : List ℕ → ℕ → Type 0 where
  nothing : {sum : ℕ} → sum ≡ number → Behind number [] sum
  letter : {unit factor sum : ℕ} → IsUnit unit factor → sum ≡ number * factor → Behind number (unit ∷ []) sum
  followed : {unit factor later sum : ℕ} {rest : List ℕ} → IsUnit unit factor → Periods rest later → sum ≡ number * factor + later
      → Behind number (unit ∷ rest) sum

-- digits in front of what is no digit are a whole run
digits_span : {digits more text : List ℕ} → IsNumeral 10 digits → text ≡ digits ++ more → BeginsOtherwise is_digit more → Span is_digit digits text more
digits_span {digits} n e o = record { cut = e; each = each_digit digits n.1; ends = o }

moved : {own digits end more : List ℕ} {sum : ℕ} → (own ≡ digits) × (end ≡ more) → IsNumeral 10 own → Behind (digits_value 10 own) end sum
    → IsNumeral 10 digits × Behind (digits_value 10 digits) more sum
moved x n b = rw (← x.0, ← x.1) (n, b)

periods_by : {digits more text : List ℕ} {sum : ℕ} → Span is_digit digits text more → Periods text sum
    → IsNumeral 10 digits × Behind (digits_value 10 digits) more sum
periods_by {text} s (unitless n e) = moved (span_one (digits_span n (sym (append-nil text)) tt) s) n (nothing e)
periods_by s (last own n u e f) = moved (span_one (digits_span n e (unit_facts u).other) s) n (letter u f)
periods_by s (next own n u p e f) = moved (span_one (digits_span n e (unit_facts u).other) s) n (followed u p f)

pub unit_ascii : {c factor : ℕ} → IsUnit c factor → c < 128
unit_ascii u = (unit_facts u).ascii

behind_grows : {v sum : ℕ} {more : List ℕ} → Behind v more sum → v ≤ sum
behind_grows (nothing e) = omega arith
behind_grows {v} (letter u e) = omega (arith, (unit_facts u).grows v)
behind_grows {v} (followed u p e) = omega (arith, (unit_facts u).grows v)

-- what std reads of the digits
no_plus : (ds : List ℕ) → AllOf is_digit ds → without_leading_plus ds ≡ ds
no_plus [] h = without_leading_plus_none [] (λ e. omega arith)
no_plus (d ∷ ds) h = let yes : is_digit d ≡ true = first_so _ _ h in without_leading_plus_none (d ∷ ds) (λ e. grind (arith, nat_tests))

pub number_read : {E : Type 0} {ds text more : List ℕ} {r : Result ℕ E} {n : ℕ} → ParsesUnsigned 32 10 ds r → Span is_digit ds text more → r ≡ Ok n
    → IsNumeral 10 ds × (n ≡ digits_value 10 ds)
number_read {ds} {r} {n} p s e =
    let k = OkIff-at_ok r (IsNumeral 10 (without_leading_plus ds) × (digits_value 10 (without_leading_plus ds) < 2 ^ 32))
    (digits_value 10 (without_leading_plus ds)) n p e in
    let same = no_plus ds s.each in
    (subst (λ (d : List ℕ). IsNumeral 10 d) same k.0.0, k.1 ∙ ap (λ (d : List ℕ). digits_value 10 d) same)

-- the text is no time to live
abbrev pub NoTtl : List ℕ → Type 0
NoTtl text = (ttl : ℕ) → IsTtl text ttl → ⊥

behind_nothing : {v sum : ℕ} {more : List ℕ} → length more ≡ 0 → Behind v more sum → sum ≡ v
behind_nothing l (nothing e) = e
behind_nothing l b = absurd (omega arith)

-- with something behind the digits
behind_unit : {v sum : ℕ} {more : List ℕ} → 0 < length more → Behind v more sum → (factor : ℕ) × IsUnit (get_or more 0 0) factor × (v * factor ≤ sum)
behind_unit l (nothing e) = absurd (omega arith)
behind_unit l (letter {factor} u e) = (factor, u, omega arith)
behind_unit l (followed {factor} u p e) = (factor, u, omega arith)

behind_next : {v sum : ℕ} {more : List ℕ} → 1 < length more → Behind v more sum
    → (factor : ℕ) × (later : ℕ) × IsUnit (get_or more 0 0) factor × Periods (drop 1 more) later × (sum ≡ v * factor + later)
behind_next l (followed {factor} {later} u p e) = (factor, later, u, p, e)
behind_next l b = absurd (omega arith)

module _ {total : ℕ} {text rest digits more : List ℕ} (g : PeriodsFirst total text rest) (s : Span is_digit digits rest more) where
  refused_by : ((sum : ℕ) → total + sum ≤ 4294967295 → IsNumeral 10 digits → Behind (digits_value 10 digits) more sum → ⊥) → NoTtl text
  refused_by h = λ ttl t.
      let x = g.only ttl t.sum in
      let y = periods_by s x.2 in
      h x.0 (omega (arith, x.1, t.fits)) y.0 y.1

  pub refused_number : {E : Type 0} {r : Result ℕ E} {d : E} → ParsesUnsigned 32 10 digits r → r ≡ Err d → NoTtl text
  refused_number {E} {r} {d} p e = refused_by (λ sum low n b.
      let same = no_plus digits s.each in
      let k = OkIff-at_err r (IsNumeral 10 (without_leading_plus digits) × (digits_value 10 (without_leading_plus digits) < 2 ^ 32))
      (digits_value 10 (without_leading_plus digits)) d p e in
      k (rw same (n, omega (arith, behind_grows b))))

  pub refused_unit : 0 < length more → ((factor : ℕ) → IsUnit (get_or more 0 0) factor → ⊥) → NoTtl text
  refused_unit l h = refused_by (λ sum low k b. let x = behind_unit l b in h x.0 x.1)

module _ {E : Type 0} {total n : ℕ} {text rest digits more : List ℕ} {r : Result ℕ E} (g : PeriodsFirst total text rest) (s : Span is_digit digits rest more)
    (parses : ParsesUnsigned 32 10 digits r) (is : r ≡ Ok n) where
  numeral : IsNumeral 10 digits × (n ≡ digits_value 10 digits)
  numeral = number_read parses s is

  pub refused_unitless : length more ≡ 0 → 4294967295 < total + n → NoTtl text
  refused_unitless l big = refused_by g s (λ sum low i b. omega (arith, behind_nothing l b, numeral.1))

  -- the last period
  pub ttl_unitless : {sum : ℕ} → length more ≡ 0 → sum ≡ total + n → sum ≤ 4294967295 → IsTtl text sum
  ttl_unitless l f low =
      let same : digits ≡ rest = sym (s.cut ∙ ap (λ (m : List ℕ). digits ++ m) (drop_all 0 more (omega arith)) ∙ append-nil digits) in
      let own : Periods rest n = rw (← same) (unitless numeral.0 numeral.1) in
      record { sum = rw f (g.gives n own); fits = low }

  module _ {letter factor : ℕ} (unit : IsUnit letter factor) (l : 0 < length more) (at : letter ≡ get_or more 0 0) where
    here : IsUnit (get_or more 0 0) factor
    here = rw at at unit

    pub refused_sum : 4294967295 < total + n * factor → NoTtl text
    refused_sum big = refused_by g s (λ sum low i b.
        let x = behind_unit l b in
        let there : n * factor ≤ sum = rw (numeral.1, unit_one here x.1) x.2 in
        omega arith)

    pub ttl_last : {sum : ℕ} {behind : List ℕ} → behind ≡ drop 1 more → length behind ≡ 0 → sum ≡ total + n * factor → sum ≤ 4294967295 → IsTtl text sum
    ttl_last d z f low =
        let one : more ≡ get_or more 0 0 ∷ [] = drop_more more 0 0 l ∙ ap (λ (m : List ℕ). get_or more 0 0 ∷ m) (sym d ∙ drop_all 0 _ (omega arith)) in
        let own : Periods rest (n * factor) =
        last digits numeral.0 here (s.cut ∙ ap (λ (m : List ℕ). digits ++ m) one) (ap (λ (v : ℕ). v * factor) numeral.1) in
        record { sum = rw f (g.gives (n * factor) own); fits = low }

    -- one period more
    pub periods_next : {sum : ℕ} {behind : List ℕ} → behind ≡ drop 1 more → 0 < length behind → sum ≡ total + n * factor → PeriodsFirst sum text behind
    periods_next {sum} d z f = rw d (record {
      gives = λ later p.
          let own : Periods rest (n * factor + later) = next digits numeral.0 here p (s.cut ∙ ap (λ (m : List ℕ). digits ++ m) (drop_more more 0 0 l))
          (ap (λ (v : ℕ). v * factor + later) numeral.1) in
          let same : total + (n * factor + later) ≡ sum + later = omega arith in
          subst (λ (t : ℕ). Periods text t) same (g.gives (n * factor + later) own);
      only = λ whole p.
          let x = g.only whole p in
          let z = behind_next (omega (arith, ap length d, length-drop 1 more)) (periods_by s x.2).1 in
          let first : digits_value 10 digits * z.0 ≡ n * factor = rw (numeral.1, unit_one here z.2) refl in
          (z.1, omega (arith, x.1, z.4), z.3);
    })

-- a text has one time to live
none_of_nothing : {text : List ℕ} {sum : ℕ} → Periods text sum → 0 < length text
none_of_nothing (unitless n e) = n.0
none_of_nothing (last {unit} digits n u e f) = omega (arith, ap length e, length-append digits (unit ∷ []))
none_of_nothing (next {rest} {unit} digits n u p e f) = omega (arith, ap length e, length-append digits (unit ∷ rest))

letter_one : {v sum c factor : ℕ} → IsUnit c factor → Behind v (c ∷ []) sum → sum ≡ v * factor
letter_one {v} u (letter w e) = e ∙ ap (λ (f : ℕ). v * f) (unit_one w u)
letter_one u (followed w p e) = absurd (omega (arith, none_of_nothing p))

pub periods_one : {text : List ℕ} {sum other : ℕ} → Periods text sum → Periods text other → sum ≡ other
periods_one {text} (unitless n e) q = e ∙ sym (behind_nothing refl (periods_by (digits_span n (sym (append-nil text)) tt) q).1)
periods_one (last digits n u e f) q = f ∙ sym (letter_one u (periods_by (digits_span n e (unit_facts u).other) q).1)
periods_one (next {factor} digits n u p e f) q =
    let z = behind_next (omega (arith, none_of_nothing p)) (periods_by (digits_span n e (unit_facts u).other) q).1 in
    let first : digits_value 10 digits * z.0 ≡ digits_value 10 digits * factor = ap (λ (k : ℕ). digits_value 10 digits * k) (unit_one z.2 u) in
    omega (arith, z.4, f, first, periods_one p z.3)

pub ruleset units = (weeks, days, hours, minutes, seconds)

pub ruleset periods = (refused_number, refused_unit, refused_unitless, refused_sum, ttl_unitless, ttl_last, periods_next, unit_ascii)
