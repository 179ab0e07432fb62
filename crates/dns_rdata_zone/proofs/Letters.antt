-- The letters of what was written: strings in quotes, labels and tokens.
use Rattle.std.proofs.Common.{◌≡◌, ℕ, ◌+◌, ◌-◌, ◌*◌, ◌/◌, ◌%◌, ◌<◌, Bool, true, false, cond, eqb, ◌||◌, ◌&&◌, nat_le, List, [], ◌∷◌, ◌++◌, map, refl, ◌∙◌, ap}
use Rattle.std.proofs.{lemmas.Bool.Decides.nat_tests, Common.append_assoc, Common.arith, lemmas.List.Elements.All-head, lemmas.List.Elements.All-tail}
use Rattle.std.specs.Prelude.{flat_map}
use Rattle.dns_fields.specs.Octets.{AreOctets}
use Rattle.dns_zone_tokens.specs.Letters.{Letter, plain, kept, is_digit, letters, octet_of, stands_for}
use Rattle.dns_rdata_zone.specs.{Names.zone_label, Spellings.escaped, Spellings.three_digits, Spellings.needs_backslash, Spellings.name_octet}

-- ---- letters

by_test : (b : Bool) (x y rest : List ℕ) (p q : Letter)
    → (b ≡ true → letters (x ++ rest) ≡ p ∷ letters rest) → (b ≡ false → letters (y ++ rest) ≡ q ∷ letters rest)
    → letters (cond b x y ++ rest) ≡ cond b p q ∷ letters rest
by_test true x y rest p q h k = h refl
by_test false x y rest p q h k = k refl

-- an octet as itself
pub itself : (c : ℕ) (rest : List ℕ) → eqb c 92 ≡ false → letters (c ∷ rest) ≡ plain c ∷ letters rest
itself c rest h = rw h

-- an octet after a `\`
behind : (c : ℕ) (rest : List ℕ) → is_digit c ≡ false → letters (92 ∷ c ∷ rest) ≡ kept c ∷ letters rest
behind c rest h = rw h

pub digit_is : (d : ℕ) → d < 10 → is_digit (48 + d) ≡ true
digit_is d h = grind (arith, nat_tests)

number_is : (c : ℕ) → c < 256 → 10 * (10 * ((48 + c / 100) - 48) + ((48 + c / 10 % 10) - 48)) + ((48 + c % 10) - 48) ≡ c
number_is c h = omega arith

digits_are : (c : ℕ) (rest : List ℕ) → c < 256 → letters (three_digits c ++ rest) ≡ kept c ∷ letters rest
digits_are c rest h =
    let small : c / 100 < 10 = omega arith in
    let first = digit_is (c / 100) small in
    rw first (ap (λ (n : ℕ). kept n ∷ letters rest) (number_is c h))

-- the letter of an octet in quotes
abbrev pub quoted_letter : ℕ → Letter
quoted_letter c = cond (eqb c 34 || eqb c 92) (kept c) (cond (nat_le 32 c && nat_le c 126) (plain c) (kept c))

pub escaped_letter : (c : ℕ) (rest : List ℕ) → c < 256 → letters (escaped c ++ rest) ≡ quoted_letter c ∷ letters rest
escaped_letter c rest low = by_test (eqb c 34 || eqb c 92) _ _ rest (kept c) _
    (λ e. behind c rest (grind (arith, nat_tests)))
    (λ e. by_test (nat_le 32 c && nat_le c 126) _ _ rest (plain c) (kept c)
    (λ _. itself c rest (grind (arith, nat_tests)))
    (λ _. digits_are c rest low))

pub escaped_letters : (s rest : List ℕ) → AreOctets s → letters (flat_map escaped s ++ rest) ≡ map quoted_letter s ++ letters rest
escaped_letters [] rest h = refl
escaped_letters (c ∷ s) rest h =
    ap letters (append_assoc (escaped c) (flat_map escaped s) rest)
    ∙ escaped_letter c (flat_map escaped s ++ rest) (All-head (λ x. x < 256) c s h)
    ∙ ap (λ (l : List Letter). quoted_letter c ∷ l) (escaped_letters s rest (All-tail (λ x. x < 256) c s h))

-- ---- strings

pub quoted_octet : (c : ℕ) → octet_of (quoted_letter c) ≡ c
quoted_octet c = elim (eqb c 34 || eqb c 92) as (λ b. octet_of (cond b (kept c) (cond (nat_le 32 c && nat_le c 126) (plain c) (kept c))) ≡ c)
    [ true ↦ refl | false ↦ elim (nat_le 32 c && nat_le c 126) as (λ b. octet_of (cond b (plain c) (kept c)) ≡ c) [ true ↦ refl | false ↦ refl ] ]

test_letter : (b : Bool) (p q : Letter) (stop : ℕ) → (b ≡ true → stands_for stop p ≡ false) → (b ≡ false → stands_for stop q ≡ false)
    → stands_for stop (cond b p q) ≡ false
test_letter true p q stop h k = h refl
test_letter false p q stop h k = k refl

pub first_true : (a b : Bool) → a && b ≡ true → a ≡ true
first_true true b h = refl
first_true false b h = h

pub second_true : (a b : Bool) → a && b ≡ true → b ≡ true
second_true true b h = h
second_true false b h = absurd (cc h)

-- ---- names

-- the letter of an octet of a label
abbrev pub name_letter : ℕ → Letter
name_letter c = cond (needs_backslash c) (kept c) (cond (nat_le 33 c && nat_le c 126) (plain c) (kept c))

pub name_octet_letter : (c : ℕ) (rest : List ℕ) → c < 256 → letters (name_octet c ++ rest) ≡ name_letter c ∷ letters rest
name_octet_letter c rest low = by_test (needs_backslash c) _ _ rest (kept c) _
    (λ e. behind c rest (grind (arith, nat_tests)))
    (λ e. by_test (nat_le 33 c && nat_le c 126) _ _ rest (plain c) (kept c)
    (λ _. itself c rest (grind (arith, nat_tests)))
    (λ _. digits_are c rest low))

pub label_letters : (s rest : List ℕ) → AreOctets s → letters (flat_map name_octet s ++ rest) ≡ map name_letter s ++ letters rest
label_letters [] rest h = refl
label_letters (c ∷ s) rest h =
    ap letters (append_assoc (name_octet c) (flat_map name_octet s) rest)
    ∙ name_octet_letter c (flat_map name_octet s ++ rest) (All-head (λ x. x < 256) c s h)
    ∙ ap (λ (l : List Letter). name_letter c ∷ l) (label_letters s rest (All-tail (λ x. x < 256) c s h))

pub name_letter_octet : (c : ℕ) → octet_of (name_letter c) ≡ c
name_letter_octet c = elim (needs_backslash c) as (λ b. octet_of (cond b (kept c) (cond (nat_le 33 c && nat_le c 126) (plain c) (kept c))) ≡ c)
    [ true ↦ refl | false ↦ elim (nat_le 33 c && nat_le c 126) as (λ b. octet_of (cond b (plain c) (kept c)) ≡ c) [ true ↦ refl | false ↦ refl ] ]

pub no_dot : (c : ℕ) → stands_for 46 (name_letter c) ≡ false
no_dot c = test_letter (needs_backslash c) (kept c) _ 46 (λ _. refl)
    (λ e. test_letter (nat_le 33 c && nat_le c 126) (plain c) (kept c) 46 (λ _. grind (arith, nat_tests)) (λ _. refl))

pub zone_label_letters : (s rest : List ℕ) → AreOctets s → letters (zone_label s ++ rest) ≡ map name_letter s ++ plain 46 ∷ letters rest
zone_label_letters s rest h =
    ap letters (append_assoc (flat_map name_octet s) (46 ∷ []) rest) ∙ label_letters s (46 ∷ rest) h
