-- Words that are numbers and types, and what words do not ask for.
use Rattle.std.proofs.Common.{◌≡◌, ℕ, ◌<◌, ◌≤◌, ◌^◌, ◌==◌, false, List, [], ◌∷◌, length, get_or, Result, Ok, Err, MatchOption, refl, sym, ap, ◌∙◌}
use Rattle.std.proofs.Common.{subst, arith, slice_index, codes, inr, ⊎_elim}
use Rattle.std.specs.{Result.result_ok, Str.Parse.IsNumeral, Str.Parse.digits_value, Str.Parse.ParsesUnsigned, Str.Parse.without_leading_plus}
use Rattle.std.proofs.{lemmas.Int.Digits.digits_value-lt, Math.Nat.pow-le-pow_right}
use Rattle.dns_types.specs.{declared.error.DecodeError.DecodeError, declared.record_type.RecordType.RecordType}
use Rattle.dns_types.specs.RecordTypes.{record_type_of, ReadsType}
use Rattle.rdata_command.specs.Request.{IsDecimalWord, IsTypeWord, IsOctetsWord, Asks, NoRequest}
use Rattle.rdata_command.specs.{Parsing.AsksText, Parsing.NoTextRequest, Comparing.AsksOrder, Comparing.NoOrderRequest}

-- a number of five digits is below 100000
few_digits : (w : List ℕ) → IsNumeral 10 w → length w ≤ 5 → digits_value 10 w < 2 ^ 32
few_digits w n few =
    let a = digits_value-lt 10 w n.1 in
    let b : 10 ^ length w ≤ 10 ^ 5 = pow-le-pow_right {n = 10} (omega arith) {i = length w} {j = 5} few in
    omega arith

no_plus : (w : List ℕ) → (slice_index w 0 == 43) ≡ false → without_leading_plus w ≡ w
no_plus w e = rw e refl

pub number_read : {E : Type 0} (w : List ℕ) (r : Result ℕ E) → (slice_index w 0 == 43) ≡ false → length w ≤ 5 → ParsesUnsigned 32 10 w r
    → MatchOption (result_ok r) ((n : ℕ) → ¬ (IsDecimalWord w n)) (λ n. IsDecimalWord w n)
number_read w (Ok n) e few p = let same = no_plus w e in
    record { numeral = subst (IsNumeral 10) same p.0.0; few = few; value = p.1 ∙ ap (digits_value 10) same }
number_read w (Err x) e few p = λ n is. p
    (subst (λ (ds : List ℕ). IsNumeral 10 ds × (digits_value 10 ds < 2 ^ 32)) (sym (no_plus w e)) (is.numeral, few_digits w is.numeral is.few))

pub type_read : (w : List ℕ) (r : Result RecordType DecodeError) → ReadsType w r → ((n : ℕ) → IsDecimalWord w n → n < 65536 → ⊥)
    → MatchOption (result_ok r) ((t : RecordType) → ¬ (IsTypeWord w t)) (λ t. IsTypeWord w t)
type_read w (Ok t) h none = inr h.0
type_read w (Err e) h none = λ t is. ⊎_elim (λ (k : (n : ℕ) × IsDecimalWord w n × (n < 65536) × (t ≡ record_type_of n)). none k.0 k.1 k.2) (λ k. h.1 t k) is

-- three elements, four and five, each by its offset
pub three_items : {X : Type 0} (xs : List X) (a b c : X) → 3 ≤ length xs → length xs < 4 → a ≡ get_or xs 0 a → b ≡ get_or xs 1 b → c ≡ get_or xs 2 c
    → xs ≡ a ∷ b ∷ c ∷ []
three_items [] a b c h k _ _ _ = absurd (omega arith)
three_items (v ∷ []) a b c h k _ _ _ = absurd (omega arith)
three_items (v ∷ w ∷ []) a b c h k _ _ _ = absurd (omega arith)
three_items (v ∷ w ∷ x ∷ []) a b c h k p q r = cc
three_items (v ∷ w ∷ x ∷ y ∷ xs) a b c h k _ _ _ = absurd (omega arith)

pub four_items : {X : Type 0} (xs : List X) (a b c d : X) → 4 ≤ length xs → length xs < 5 → a ≡ get_or xs 0 a → b ≡ get_or xs 1 b → c ≡ get_or xs 2 c
    → d ≡ get_or xs 3 d → xs ≡ a ∷ b ∷ c ∷ d ∷ []
four_items [] a b c d h k _ _ _ _ = absurd (omega arith)
four_items (v ∷ xs) a b c d h k p q r s = let rest = three_items xs b c d (omega arith) (omega arith) q r s in cc

pub five_items : {X : Type 0} (xs : List X) (a b c d e : X) → 5 ≤ length xs → length xs < 6 → a ≡ get_or xs 0 a → b ≡ get_or xs 1 b → c ≡ get_or xs 2 c
    → d ≡ get_or xs 3 d → e ≡ get_or xs 4 e → xs ≡ a ∷ b ∷ c ∷ d ∷ e ∷ []
five_items [] a b c d e h k _ _ _ _ _ = absurd (omega arith)
five_items (v ∷ xs) a b c d e h k p q r s t = let rest = four_items xs b c d e (omega arith) (omega arith) q r s t in cc

-- ---- words that ask for nothing

abbrev pub ReadWords : List (List ℕ) → List ℕ → List ℕ → List ℕ → List ℕ → Type 0
ReadWords words a b c d = words ≡ codes "read" ∷ a ∷ b ∷ c ∷ d ∷ []

module _ {words : List (List ℕ)} {a b c d : List ℕ} (is : ReadWords words a b c d) where
  same_words : {t : RecordType} {p n : ℕ} {m : List ℕ} (k : Asks words t p n m)
      → (k.type_word ≡ a) × (k.offset_word ≡ b) × (k.length_word ≡ c) × (k.octets_word ≡ d)
  same_words k = let e : ReadWords words k.type_word k.offset_word k.length_word k.octets_word = k.spelled in (cc, cc, cc, cc)

  pub no_type : ((t : RecordType) → ¬ (IsTypeWord a t)) → NoRequest words
  no_type none = record { none = λ t p n m k. none t (subst (λ (w : List ℕ). IsTypeWord w t) (same_words k).0 k.type_is) }

  pub no_offset : ((p : ℕ) → ¬ (IsDecimalWord b p)) → NoRequest words
  no_offset none = record { none = λ t p n m k. none p (subst (λ (w : List ℕ). IsDecimalWord w p) (same_words k).1 k.offset_is) }

  pub no_length : ((n : ℕ) → IsDecimalWord c n → n < 65536 → ⊥) → NoRequest words
  no_length none = record { none = λ t p n m k. none n (subst (λ (w : List ℕ). IsDecimalWord w n) (same_words k).2 k.length_is) k.short }

  pub no_octets : ((m : List ℕ) → ¬ (IsOctetsWord d m)) → NoRequest words
  no_octets none = record { none = λ t p n m k. none m (subst (λ (w : List ℕ). IsOctetsWord w m) (same_words k).3 k.octets_are) }

-- ---- or for no text

pub no_text_type : {words : List (List ℕ)} {a b : List ℕ} → words ≡ codes "parse" ∷ a ∷ b ∷ [] → ((t : RecordType) → ¬ (IsTypeWord a t)) → NoTextRequest words
no_text_type {words} {a} {b} is none = record { none = λ t text k. let e : words ≡ codes "parse" ∷ k.type_word ∷ text ∷ [] = k.spelled in let same : k.type_word ≡ a = cc in none t (subst (λ (w : List ℕ). IsTypeWord w t) same k.type_is) }

-- ---- or for no order

abbrev pub CompareWords : List (List ℕ) → List ℕ → List ℕ → List ℕ → Type 0
CompareWords words a b c = words ≡ codes "cmp" ∷ a ∷ b ∷ c ∷ []

module _ {words : List (List ℕ)} {a b c : List ℕ} (is : CompareWords words a b c) where
  same_order_words : {t : RecordType} {left right : List ℕ} (k : AsksOrder words t left right)
      → (k.type_word ≡ a) × (k.left_word ≡ b) × (k.right_word ≡ c)
  same_order_words k = let e : CompareWords words k.type_word k.left_word k.right_word = k.spelled in (cc, cc, cc)

  pub no_order_type : ((t : RecordType) → ¬ (IsTypeWord a t)) → NoOrderRequest words
  no_order_type none = record { none = λ t left right k. none t (subst (λ (w : List ℕ). IsTypeWord w t) (same_order_words k).0 k.type_is) }

  pub no_left : ((m : List ℕ) → ¬ (IsOctetsWord b m)) → NoOrderRequest words
  no_left none = record { none = λ t left right k. none left (subst (λ (w : List ℕ). IsOctetsWord w left) (same_order_words k).1 k.left_is) }

  pub no_right : ((m : List ℕ) → ¬ (IsOctetsWord c m)) → NoOrderRequest words
  no_right none = record { none = λ t left right k. none right (subst (λ (w : List ℕ). IsOctetsWord w right) (same_order_words k).2 k.right_is) }
