-- What was written has the forms of its tokens.
use Rattle.std.proofs.Common.{◌≡◌, ◌≢◌, ℕ, ◌+◌, ◌-◌, ◌*◌, ◌/◌, ◌%◌, ◌^◌, ◌<◌, ◌≤◌, Bool, true, false, cond, eqb, ◌&&◌, nat_le, List, [], ◌∷◌}
use Rattle.std.proofs.Common.{◌++◌, map, decimal, codes, Option, Some, refl, sym, ◌∙◌, ap, append_assoc, arith}
use Rattle.std.specs.{Prelude.flat_map, List.AllByRecursion}
use Rattle.std.proofs.{lemmas.Bool.Decides.nat_tests, lemmas.Fmt.decimal_is_IsNumeral, lemmas.List.append-nil}
use Rattle.dns_fields.specs.{Labels.DomainName, Labels.IsName, Octets.AreOctets}
use Rattle.dns_names_wire.specs.NameValues.{completed}
use Rattle.dns_zone_tokens.proofs.NamePuts.{completed_full}
use Rattle.dns_zone_tokens.specs.Forms.{number, IsText}
use Rattle.dns_zone_tokens.specs.Letters.{Letter, plain, is_digit, letters, octet_of, escapes_stand}
use Rattle.dns_zone_tokens.specs.NameTokens.{parts_from, name_of_parts, with_label, labelled, is_alone, named, name}
use Rattle.dns_rdata_zone.specs.Names.{zone_label, zone_labels, zone_name}
use Rattle.dns_rdata_zone.specs.Spellings.{escaped, three_digits, needs_backslash, name_octet}
use Rattle.dns_rdata_zone.proofs.{Dividing.bare_token, Dividing.quoted_token, Dividing.NoneEmpty, Parts.ByParts, Parts.name_octet_by, Parts.escaped_by}
use Rattle.dns_rdata_zone.proofs.Parts.{octet_parts, labels_parts}
use Rattle.dns_rdata_zone.proofs.Letters.{digit_is, name_letter, name_letter_octet, no_dot, zone_label_letters, quoted_letter, quoted_octet, escaped_letters}

-- ---- numbers

pub number_form : (w n : ℕ) → n < 2 ^ (8 * w) → n < 2 ^ 64 → (number w).is n (bare_token (decimal n))
number_form w n fits small = let num = decimal_is_IsNumeral n small in (record { bare = refl; digits = num.0; value = sym num.1 }, fits)

-- ---- escapes

-- the escapes of a text have a meaning if those of what follows have
abbrev pub Escapes : List ℕ → Type 0
Escapes s = (rest : List ℕ) → escapes_stand (s ++ rest) ≡ escapes_stand rest

escapes_parts : ByParts Escapes
escapes_parts = record { none = λ rest. refl; both = λ a b h k rest. ap escapes_stand (append_assoc a b rest) ∙ h (b ++ rest) ∙ k rest }

escapes_all : (s : List ℕ) → Escapes s → escapes_stand s ≡ true
escapes_all s h = ap escapes_stand (sym (append-nil s)) ∙ h []

escapes_one : (c : ℕ) → eqb c 92 ≡ false → Escapes (c ∷ [])
escapes_one c h rest = rw h refl

escapes_two : (c : ℕ) → is_digit c ≡ false → Escapes (92 ∷ c ∷ [])
escapes_two c h rest = rw h refl

small_is : (n d : ℕ) → d < 10 → 10 * n + ((48 + d) - 48) ≤ 255 → is_digit (48 + d) && nat_le (10 * n + ((48 + d) - 48)) 255 ≡ true
small_is n d h k = grind (arith, nat_tests)

escapes_digits : (c : ℕ) → c < 256 → Escapes (three_digits c)
escapes_digits c h rest =
    let first = digit_is (c / 100) (omega arith) in
    let second = digit_is (c / 10 % 10) (omega arith) in
    let third = small_is (10 * ((48 + c / 100) - 48) + ((48 + c / 10 % 10) - 48)) (c % 10) (omega arith) (omega arith) in
    rw (first, second, third) refl

escapes_escaped : (c : ℕ) → c < 256 → Escapes (escaped c)
escapes_escaped c h = escaped_by Escapes c (λ e. escapes_two c (grind (arith, nat_tests))) (λ e f. escapes_one c (grind (arith, nat_tests)))
    (escapes_digits c h)

escapes_name_octet : (c : ℕ) → c < 256 → Escapes (name_octet c)
escapes_name_octet c h =
    name_octet_by Escapes c (λ e. escapes_two c (grind (arith, nat_tests))) (λ e f. escapes_one c (grind (arith, nat_tests))) (escapes_digits c h)

-- ---- strings

quoted_octets : (s : List ℕ) → map octet_of (map quoted_letter s) ≡ s
quoted_octets [] = refl
quoted_octets (c ∷ s) = rw (quoted_octet c) (ap (λ (t : List ℕ). c ∷ t) (quoted_octets s))

pub text_form : (joined : Bool) (s : List ℕ) → AreOctets s → IsText s (quoted_token joined (flat_map escaped s))
text_form joined s h = record {
  escapes = escapes_all (flat_map escaped s) (octet_parts escapes_parts escaped escapes_escaped s h);
  value = sym (
      ap (λ (t : List ℕ). map octet_of (letters t)) (sym (append-nil (flat_map escaped s)))
      ∙ ap (map octet_of) (escaped_letters s [] h ∙ append-nil (map quoted_letter s))
      ∙ quoted_octets s
      );
}

-- ---- names

escapes_name : (ls : List (List ℕ)) → AllByRecursion AreOctets ls → escapes_stand (zone_labels ls) ≡ true
escapes_name [] h = refl
escapes_name (l ∷ ls) h = escapes_all (flat_map zone_label (l ∷ ls)) (labels_parts escapes_parts escapes_name_octet (escapes_one 46 refl) (l ∷ ls) h)

label_part : (front s : List ℕ) (xs : List Letter) → parts_from front (map name_letter s ++ plain 46 ∷ xs) ≡ (front ++ s) ∷ parts_from [] xs
label_part front [] xs = ap (λ (l : List ℕ). l ∷ parts_from [] xs) (sym (append-nil front))
label_part front (c ∷ s) xs = rw (no_dot c, name_letter_octet c)
    (label_part (front ++ c ∷ []) s xs ∙ ap (λ (l : List ℕ). l ∷ parts_from [] xs) (append_assoc front (c ∷ []) s))

label_parts : (ls : List (List ℕ)) → AllByRecursion AreOctets ls → parts_from [] (letters (flat_map zone_label ls)) ≡ ls ++ [] ∷ []
label_parts [] h = refl
label_parts (l ∷ ls) h =
    ap (parts_from []) (zone_label_letters l (flat_map zone_label ls) h.0)
    ∙ label_part [] l (letters (flat_map zone_label ls))
    ∙ ap (λ (ps : List (List ℕ)). l ∷ ps) (label_parts ls h.1)

more_parts : (l : List ℕ) (ls : List (List ℕ)) → name_of_parts (l ∷ (ls ++ [] ∷ [])) ≡ with_label l (name_of_parts (ls ++ [] ∷ []))
more_parts [] [] = refl
more_parts [] (k ∷ ls) = refl
more_parts (c ∷ l) [] = refl
more_parts (c ∷ l) (k ∷ ls) = refl

name_is : (ls : List (List ℕ)) → name_of_parts (ls ++ [] ∷ []) ≡ record { labels = ls; fully_qualified = true }
name_is [] = refl
name_is (l ∷ ls) = more_parts l ls ∙ ap (with_label l) (name_is ls)

not_alone : (c : ℕ) (l : List ℕ) (rest : List ℕ) → l ≢ [] → is_alone c ((flat_map name_octet l ++ codes ".") ++ rest) ≡ false
not_alone c [] rest h = absurd (h refl)
not_alone c (d ∷ l) rest h =
    ap (is_alone c) (append_assoc (flat_map name_octet (d ∷ l)) (codes ".") rest ∙ append_assoc (name_octet d) (flat_map name_octet l) (46 ∷ rest))
    ∙ front_not (needs_backslash d) (nat_le 33 d && nat_le d 126) (flat_map name_octet l) where
      one_not : (x : ℕ) (t : List ℕ) → is_alone c (x ∷ (t ++ 46 ∷ rest)) ≡ false
      one_not x [] = refl
      one_not x (y ∷ t) = refl

      front_not : (b e : Bool) (t : List ℕ) → is_alone c (cond b (92 ∷ d ∷ []) (cond e (d ∷ []) (three_digits d)) ++ (t ++ 46 ∷ rest)) ≡ false
      front_not true e t = refl
      front_not false true t = one_not d t
      front_not false false t = refl

by_tests : (a b : Bool) (x y z : Option DomainName) → a ≡ false → b ≡ false → cond a x (cond b y z) ≡ z
by_tests a b x y z h k = rw (h, k) refl

named_is : (ls : List (List ℕ)) (origin : Option DomainName) → AllByRecursion AreOctets ls → NoneEmpty ls
    → named origin (zone_labels ls) ≡ Some (record { labels = ls; fully_qualified = true })
named_is [] origin h k = refl
named_is (l ∷ ls) origin h k =
    let x : DomainName = record { labels = l ∷ ls; fully_qualified = true } in
    by_tests (is_alone 64 (zone_labels (l ∷ ls))) (is_alone 46 (zone_labels (l ∷ ls))) origin (Some (record { labels = []; fully_qualified = true })) (Some (completed (labelled (zone_labels (l ∷ ls))) origin))
    (not_alone 64 l (flat_map zone_label ls) k.0) (not_alone 46 l (flat_map zone_label ls) k.0)
    ∙ ap (λ (n : DomainName). Some (completed n origin)) (ap name_of_parts (label_parts (l ∷ ls) h) ∙ name_is (l ∷ ls))
    ∙ ap (λ (n : DomainName). Some n) (completed_full x origin refl)

pub name_form : (x : DomainName) (origin : Option DomainName) → AllByRecursion AreOctets x.labels → NoneEmpty x.labels → x.fully_qualified ≡ true → IsName x
    → (name origin).is x (bare_token (zone_name x))
name_form x origin h k q is = record {
  bare = refl;
  escapes = escapes_name x.labels h;
  named = named_is x.labels origin h k ∙ ap (λ (b : Bool). let n : DomainName = record { labels = x.labels; fully_qualified = b } in Some n) (sym q);
  is_name = is;
}
