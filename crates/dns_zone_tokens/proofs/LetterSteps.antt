-- Letters, one by one.
use Rattle.std.proofs.Common.{◌≡◌, ◌⊎◌, inl, inr, ℕ, ◌+◌, ◌*◌, ◌<◌, ◌≤◌, Bool, true, false, cond, eqb, List, [], ◌∷◌, ◌++◌, length, map, get_or, take, drop, length-drop}
use Rattle.std.proofs.Common.{◌-◌, zero, suc, ◌≢◌, ap, refl, sym, ◌∙◌, arith, append_assoc}
use Rattle.std.specs.Prelude.{◌&&◌, nat_le}
use Rattle.std.proofs.{Math.Seq.take-nil, lemmas.List.append-nil, lemmas.List.drop_all, lemmas.List.nil_from_length, lemmas.List.take_all, lemmas.Bool.Decides.nat_tests}
use Rattle.dns_fields.specs.Tlvs.{string as string_octets}
use Rattle.dns_zone_tokens.specs.{Forms.IsText, Forms.string, Forms.text as text_form, Views.BeginsWith, Tokens.Token, ZoneReads.PutAs, ZoneReads.NoValueOf}
use Rattle.dns_zone_tokens.specs.Letters.{Letter, plain, kept, is_digit, letters, letters_from, octet_of, escapes_stand, escapes_from, BeginsWithNone}
use Rattle.dns_zone_tokens.specs.Letters.{EscapeState, between, backslash, one_digit, two_digits}

either_way : (b : Bool) → cond b false false ≡ false
either_way true = refl
either_way false = refl

is_ninety_two : (c : ℕ) → c ≡ 92 → eqb c 92 ≡ true
is_ninety_two c h = grind (arith, nat_tests)

digit_test : (c : ℕ) → 48 ≤ c → c ≤ 57 → is_digit c ≡ true
digit_test c h k = grind (arith, nat_tests)

no_digit : (c : ℕ) → (c < 48) ⊎ (57 < c) → is_digit c ≡ false
no_digit c (inl h) = grind (arith, nat_tests)
no_digit c (inr h) = grind (arith, nat_tests)

-- ---- letters of octets, and of those after them

stand_by : (b : Bool) (x y u v z : Bool) → (x ≡ true → u ≡ z) → (y ≡ true → v ≡ z) → cond b x y ≡ true → cond b u v ≡ z
stand_by true x y u v z f g h = f h
stand_by false x y u v z f g h = g h

pub stand_more : (state : EscapeState) (s more : List ℕ) → escapes_from state s ≡ true → escapes_from state (s ++ more) ≡ escapes_from between more
stand_more between [] more h = refl
stand_more backslash [] more h = absurd (cc)
stand_more (one_digit n) [] more h = absurd (cc)
stand_more (two_digits n) [] more h = absurd (cc)
stand_more between (c ∷ s) more h =
    stand_by (eqb c 92) (escapes_from backslash s) (escapes_from between s) (escapes_from backslash (s ++ more)) (escapes_from between (s ++ more))
    (escapes_from between more) (stand_more backslash s more) (stand_more between s more) h
stand_more backslash (c ∷ s) more h =
    stand_by (is_digit c) (escapes_from (one_digit (c - 48)) s) (escapes_from between s) (escapes_from (one_digit (c - 48)) (s ++ more))
    (escapes_from between (s ++ more)) (escapes_from between more) (stand_more (one_digit (c - 48)) s more) (stand_more between s more) h
stand_more (one_digit n) (c ∷ s) more h =
    let two = 10 * n + (c - 48) in
    stand_by (is_digit c) (escapes_from (two_digits two) s) false (escapes_from (two_digits two) (s ++ more)) false (escapes_from between more)
    (stand_more (two_digits two) s more) (λ no. absurd (cc)) h
stand_more (two_digits n) (c ∷ s) more h =
    stand_by (is_digit c && nat_le (10 * n + (c - 48)) 255) (escapes_from between s) false (escapes_from between (s ++ more)) false (escapes_from between more)
    (stand_more between s more) (λ no. absurd (cc)) h

true_then : (b x : Bool) → cond b x false ≡ true → x ≡ true
true_then true x h = h
true_then false x h = absurd (cc)

letters_by : (b : Bool) (x y : Bool) (u v p q m : List Letter) → (x ≡ true → u ≡ p ++ m) → (y ≡ true → v ≡ q ++ m) → cond b x y ≡ true
    → cond b u v ≡ cond b p q ++ m
letters_by true x y u v p q m f g h = f h
letters_by false x y u v p q m f g h = g h

pub letters_more : (state : EscapeState) (s more : List ℕ) → escapes_from state s ≡ true
    → letters_from state (s ++ more) ≡ letters_from state s ++ letters_from between more
letters_more between [] more h = refl
letters_more backslash [] more h = absurd (cc)
letters_more (one_digit n) [] more h = absurd (cc)
letters_more (two_digits n) [] more h = absurd (cc)
letters_more between (c ∷ s) more h =
    letters_by (eqb c 92) (escapes_from backslash s) (escapes_from between s) (letters_from backslash (s ++ more)) (plain c ∷ letters_from between (s ++ more))
    (letters_from backslash s) (plain c ∷ letters_from between s) (letters_from between more) (letters_more backslash s more)
    (λ k. ap (λ (xs : List Letter). plain c ∷ xs) (letters_more between s more k)) h
letters_more backslash (c ∷ s) more h =
    letters_by (is_digit c) (escapes_from (one_digit (c - 48)) s) (escapes_from between s) (letters_from (one_digit (c - 48)) (s ++ more))
    (kept c ∷ letters_from between (s ++ more)) (letters_from (one_digit (c - 48)) s) (kept c ∷ letters_from between s) (letters_from between more)
    (letters_more (one_digit (c - 48)) s more) (λ k. ap (λ (xs : List Letter). kept c ∷ xs) (letters_more between s more k)) h
letters_more (one_digit n) (c ∷ s) more h =
    letters_more (two_digits (10 * n + (c - 48))) s more (true_then (is_digit c) (escapes_from (two_digits (10 * n + (c - 48))) s) h)
letters_more (two_digits n) (c ∷ s) more h =
    ap (λ (xs : List Letter). kept (10 * n + (c - 48)) ∷ xs)
    (letters_more between s more (true_then (is_digit c && nat_le (10 * n + (c - 48)) 255) (escapes_from between s) h))

-- ---- the first letter

-- octets that are one letter, and octets after them
pub begins : (octets rest : List ℕ) (x : Letter) → letters octets ≡ x ∷ [] → escapes_stand octets ≡ true → BeginsWith x (octets ++ rest) rest
begins octets rest x own whole = record {
  octets = octets;
  split = refl;
  own = own;
  whole = whole;
  first = letters_more between octets rest whole ∙ ap (λ (xs : List Letter). xs ++ letters rest) own;
  escapes = stand_more between octets rest whole;
}

pub plain_first : (s : List ℕ) → 0 < length s → get_or s 0 0 ≢ 92 → BeginsWith (plain (get_or s 0 0)) s (drop 1 s)
plain_first [] some other = absurd (omega arith)
plain_first (c ∷ s) some other =
    let test : eqb c 92 ≡ false = grind (arith, nat_tests) in
    begins (c ∷ []) s (plain c) (rw test refl) (rw test refl)

pub kept_first : (s : List ℕ) → 2 ≤ length s → get_or s 0 0 ≡ 92 → (get_or s 1 0 < 48) ⊎ (57 < get_or s 1 0)
    → BeginsWith (kept (get_or s 1 0)) s (drop 2 s)
kept_first [] some e other = absurd (omega arith)
kept_first (a ∷ []) some e other = absurd (omega arith)
kept_first (a ∷ b ∷ s) some e other =
    begins (a ∷ b ∷ []) s (kept b) (rw (is_ninety_two a e, no_digit b other) refl) (rw (is_ninety_two a e, no_digit b other) refl)

small_number : (n : ℕ) → n ≤ 255 → nat_le n 255 ≡ true
small_number n h = grind (arith, nat_tests)

large_number : (n : ℕ) → 255 < n → nat_le n 255 ≡ false
large_number n h = grind (arith, nat_tests)

pub number_first : (s : List ℕ) (v : ℕ) → 4 ≤ length s → get_or s 0 0 ≡ 92 → 48 ≤ get_or s 1 0 → get_or s 1 0 ≤ 57 → 48 ≤ get_or s 2 0 → get_or s 2 0 ≤ 57
    → 48 ≤ get_or s 3 0 → get_or s 3 0 ≤ 57 → v ≡ (get_or s 1 0 - 48) * 100 + (get_or s 2 0 - 48) * 10 + (get_or s 3 0 - 48) → v ≤ 255
    → BeginsWith (kept v) s (drop 4 s)
number_first [] v few e b0 b1 c0 c1 d0 d1 is small = absurd (omega arith)
number_first (a ∷ []) v few e b0 b1 c0 c1 d0 d1 is small = absurd (omega arith)
number_first (a ∷ b ∷ []) v few e b0 b1 c0 c1 d0 d1 is small = absurd (omega arith)
number_first (a ∷ b ∷ c ∷ []) v few e b0 b1 c0 c1 d0 d1 is small = absurd (omega arith)
number_first (a ∷ b ∷ c ∷ d ∷ s) v few e b0 b1 c0 c1 d0 d1 is small =
    let value : 10 * (10 * (b - 48) + (c - 48)) + (d - 48) ≡ v = omega (arith, is) in
    begins (a ∷ b ∷ c ∷ d ∷ []) s (kept v)
    (rw (is_ninety_two a e, digit_test b b0 b1, value) refl)
    (rw (is_ninety_two a e, digit_test b b0 b1, digit_test c c0 c1, digit_test d d0 d1, value, small_number v small) refl)

-- ---- no letter

none_behind : (a : ℕ) (s : List ℕ) → a ≡ 92 → ((n : ℕ) → escapes_from backslash (take n s) ≡ false) → BeginsWithNone (a ∷ s)
none_behind a s e h = record { none = of } where
  of : (n : ℕ) → 0 < n → escapes_stand (take n (a ∷ s)) ≡ false
  of zero some = absurd (omega arith)
  of (suc n) some = rw (is_ninety_two a e) (h n)

either_none : (b x : Bool) → x ≡ false → cond b x false ≡ false
either_none true x h = h
either_none false x h = refl

behind_digit : (b : ℕ) (s : List ℕ) → 48 ≤ b → b ≤ 57 → ((n : ℕ) → escapes_from (one_digit (b - 48)) (take n s) ≡ false)
    → (n : ℕ) → escapes_from backslash (take n (b ∷ s)) ≡ false
behind_digit b s low high h zero = refl
behind_digit b s low high h (suc n) = rw (digit_test b low high) (h n)

behind_second : (m c : ℕ) (s : List ℕ) → ((n : ℕ) → escapes_from (two_digits (10 * m + (c - 48))) (take n s) ≡ false)
    → (n : ℕ) → escapes_from (one_digit m) (take n (c ∷ s)) ≡ false
behind_second m c s h zero = refl
behind_second m c s h (suc n) = either_none (is_digit c) (escapes_from (two_digits (10 * m + (c - 48))) (take n s)) (h n)

wrong_second : (m c : ℕ) (s : List ℕ) → (c < 48) ⊎ (57 < c) → (n : ℕ) → escapes_from (one_digit m) (take n (c ∷ s)) ≡ false
wrong_second m c s other zero = refl
wrong_second m c s other (suc n) = rw (no_digit c other) refl

wrong_third : (m d : ℕ) (s : List ℕ) → (is_digit d && nat_le (10 * m + (d - 48)) 255) ≡ false
    → (n : ℕ) → escapes_from (two_digits m) (take n (d ∷ s)) ≡ false
wrong_third m d s h zero = refl
wrong_third m d s h (suc n) = rw h refl

pub none_short : (s : List ℕ) → 2 ≤ length s → length s < 4 → get_or s 0 0 ≡ 92 → 48 ≤ get_or s 1 0 → get_or s 1 0 ≤ 57 → BeginsWithNone s
none_short [] some few e low high = absurd (omega arith)
none_short (a ∷ []) some few e low high = absurd (omega arith)
none_short (a ∷ b ∷ []) some few e low high =
    none_behind a (b ∷ []) e (behind_digit b [] low high (λ n. ap (escapes_from (one_digit (b - 48))) (take-nil n)))
none_short (a ∷ b ∷ c ∷ []) some few e low high =
    none_behind a (b ∷ c ∷ []) e (behind_digit b (c ∷ []) low high (behind_second (b - 48) c []
    (λ n. ap (escapes_from (two_digits (10 * (b - 48) + (c - 48)))) (take-nil n))))
none_short (a ∷ b ∷ c ∷ d ∷ s) some few e low high = absurd (omega arith)

pub none_digit : (s : List ℕ) → 4 ≤ length s → get_or s 0 0 ≡ 92 → 48 ≤ get_or s 1 0 → get_or s 1 0 ≤ 57
    → ((get_or s 2 0 < 48) ⊎ (57 < get_or s 2 0)) ⊎ ((get_or s 3 0 < 48) ⊎ (57 < get_or s 3 0)) → BeginsWithNone s
none_digit [] few e low high other = absurd (omega arith)
none_digit (a ∷ []) few e low high other = absurd (omega arith)
none_digit (a ∷ b ∷ []) few e low high other = absurd (omega arith)
none_digit (a ∷ b ∷ c ∷ []) few e low high other = absurd (omega arith)
none_digit (a ∷ b ∷ c ∷ d ∷ s) few e low high (inl third) =
    none_behind a (b ∷ c ∷ d ∷ s) e (behind_digit b (c ∷ d ∷ s) low high (wrong_second (b - 48) c (d ∷ s) third))
none_digit (a ∷ b ∷ c ∷ d ∷ s) few e low high (inr fourth) =
    none_behind a (b ∷ c ∷ d ∷ s) e (behind_digit b (c ∷ d ∷ s) low high (behind_second (b - 48) c (d ∷ s)
    (wrong_third (10 * (b - 48) + (c - 48)) d s (rw (no_digit d fourth) refl))))

pub none_number : (s : List ℕ) → 4 ≤ length s → get_or s 0 0 ≡ 92 → 48 ≤ get_or s 1 0 → get_or s 1 0 ≤ 57 → 48 ≤ get_or s 3 0 → get_or s 3 0 ≤ 57
    → 255 < (get_or s 1 0 - 48) * 100 + (get_or s 2 0 - 48) * 10 + (get_or s 3 0 - 48) → BeginsWithNone s
none_number [] few e low high d0 d1 past = absurd (omega arith)
none_number (a ∷ []) few e low high d0 d1 past = absurd (omega arith)
none_number (a ∷ b ∷ []) few e low high d0 d1 past = absurd (omega arith)
none_number (a ∷ b ∷ c ∷ []) few e low high d0 d1 past = absurd (omega arith)
none_number (a ∷ b ∷ c ∷ d ∷ s) few e low high d0 d1 past =
    let large : 255 < 10 * (10 * (b - 48) + (c - 48)) + (d - 48) = omega (arith, past) in
    none_behind a (b ∷ c ∷ d ∷ s) e (behind_digit b (c ∷ d ∷ s) low high (behind_second (b - 48) c (d ∷ s)
    (wrong_third (10 * (b - 48) + (c - 48)) d s (rw (digit_test d d0 d1, large_number _ large) refl))))

-- after a `\` and a digit there are fewer than two octets
pub no_third : (s : List ℕ) → 2 ≤ length s → length s < 4 → get_or s 0 0 ≡ 92 → 48 ≤ get_or s 1 0 → get_or s 1 0 ≤ 57 → escapes_stand s ≡ false
no_third [] some few e low high = absurd (omega arith)
no_third (a ∷ []) some few e low high = absurd (omega arith)
no_third (a ∷ b ∷ []) some few e low high = rw (is_ninety_two a e, digit_test b low high) refl
no_third (a ∷ b ∷ c ∷ []) some few e low high = rw (is_ninety_two a e, digit_test b low high) (either_way (is_digit c))
no_third (a ∷ b ∷ c ∷ d ∷ s) some few e low high = absurd (omega arith)

-- octets without a `\` are letters
pub plain_letters : (n : ℕ) (s : List ℕ) → n ≤ length s → ((k : ℕ) → k < n → get_or s k 0 ≢ 92)
    → (escapes_stand s ≡ escapes_stand (drop n s)) × (map octet_of (letters s) ≡ take n s ++ map octet_of (letters (drop n s)))
plain_letters zero s w h = (refl, refl)
plain_letters (suc n) [] w h = absurd (omega arith)
plain_letters (suc n) (c ∷ s) w h =
    let other : c ≢ 92 = h 0 (omega arith) in
    let test : eqb c 92 ≡ false = grind (arith, nat_tests) in
    let rest = plain_letters n s (omega arith) (λ k lt. h (suc k) (omega arith)) in
    (rw test rest.0, rw test (ap (λ (t : List ℕ). c ∷ t) rest.1))

-- The octets of a text's letters were appended, up to the rest of the text.
pub record PutSoFar (text rest before octets : List ℕ) : Type 0 where
  pub escapes : escapes_stand text ≡ escapes_stand rest
  pub value : before ++ map octet_of (letters text) ≡ octets ++ map octet_of (letters rest)

-- what a slice from an offset on is
pub from_offset : (n : ℕ) (s : List ℕ) → take (length s - n) (drop n s) ≡ drop n s
from_offset n s = take_all (length s - n) (drop n s) (omega (arith, length-drop n s))

-- so were n octets more, none of them a `\`
pub put_run : (text rest before octets more : List ℕ) (n : ℕ) → PutSoFar text rest before octets → n ≤ length rest → ((k : ℕ) → k < n → get_or rest k 0 ≢ 92)
    → more ≡ octets ++ take n rest → PutSoFar text (take (length rest - n) (drop n rest)) before more
put_run text rest before octets more n so w h e =
    let own = plain_letters n rest w h in
    rw (from_offset n rest) (record {
      escapes = so.escapes ∙ own.0;
      value = so.value ∙ ap (λ (s : List ℕ). octets ++ s) own.1 ∙ sym (append_assoc octets (take n rest) (map octet_of (letters (drop n rest))))
          ∙ ap (λ (s : List ℕ). s ++ map octet_of (letters (drop n rest))) (sym e);
    })

-- and so was the letter after them
pub put_next : (text rest before octets more : List ℕ) (n : ℕ) (x : Letter) → PutSoFar text rest before octets → BeginsWith x rest (drop n rest)
    → more ≡ octets ++ octet_of x ∷ []
    → PutSoFar text (take (length rest - n) (drop n rest)) before more
put_next text rest before octets more n x so begins e = rw (from_offset n rest) (record {
  escapes = so.escapes ∙ begins.escapes;
  value = so.value ∙ ap (λ (xs : List Letter). octets ++ map octet_of xs) begins.first
      ∙ sym (append_assoc octets (octet_of x ∷ []) (map octet_of (letters (drop n rest))))
      ∙ ap (λ (s : List ℕ). s ++ map octet_of (letters (drop n rest))) (sym e);
})

-- all were
pub put_all : (token : Token) (rest before octets : List ℕ) → PutSoFar token.octets rest before octets → length rest ≡ 0
    → PutAs text_form (λ s. s) before octets token
put_all token rest before octets so end =
    let none : rest ≡ [] = nil_from_length rest end in record {
      value = map octet_of (letters token.octets);
      is = record { escapes = so.escapes ∙ ap escapes_stand none; value = refl };
      same = sym (so.value ∙ ap (λ (r : List ℕ). octets ++ map octet_of (letters r)) none ∙ append-nil octets);
    }

-- a `\` without a meaning
pub no_text : (token : Token) → escapes_stand token.octets ≡ false → NoValueOf text_form token
no_text token bad = record { none = λ v is. let both : true ≡ false = sym is.escapes ∙ bad in absurd (cc) }

-- ---- without a `\`

plain_is : (token : Token) (n : ℕ) → length token.octets ≤ n → ((k : ℕ) → k < n → get_or token.octets k 0 ≢ 92) → IsText token.octets token
plain_is token n all none =
    let own = plain_letters (length token.octets) token.octets (omega arith) (λ k l. none k (omega (arith, l, all))) in
    let end : drop (length token.octets) token.octets ≡ [] = drop_all (length token.octets) token.octets (omega arith) in record {
      escapes = own.0 ∙ ap escapes_stand end;
      value = sym (own.1 ∙ ap (λ (s : List ℕ). take (length token.octets) token.octets ++ map octet_of (letters s)) end
          ∙ append-nil (take (length token.octets) token.octets) ∙ take_all (length token.octets) token.octets (omega arith));
    }

pub plain_put : (token : Token) (before after : List ℕ) (n : ℕ) → length token.octets ≤ n → ((k : ℕ) → k < n → get_or token.octets k 0 ≢ 92)
    → after ≡ before ++ token.octets → PutAs text_form (λ s. s) before after token
plain_put token before after n all none put = record { value = token.octets; is = plain_is token n all none; same = put }

pub plain_string : (token : Token) (before after : List ℕ) (n : ℕ) → length token.octets ≤ n → ((k : ℕ) → k < n → get_or token.octets k 0 ≢ 92)
    → length token.octets ≤ 255 → after ≡ before ++ length token.octets ∷ token.octets → PutAs string string_octets before after token
plain_string token before after n all none few put = record { value = token.octets; is = (plain_is token n all none, few); same = put }
