-- Lists are read as they are written.
use Rattle.std.proofs.Common.{◌≡◌, ◌≢◌, ℕ, Bool, true, false, eqb, List, [], ◌∷◌, ◌++◌, map, refl, sym, ◌∙◌, ap, subst, arith, append_assoc, inl, inr}
use Rattle.std.specs.{Prelude.◌||◌, List.AllByRecursion, List.AllZip, List.flat_map, List.join_with_byte}
use Rattle.std.proofs.{lemmas.Bool.cases_Bool, lemmas.Bool.Decides.nat_tests, lemmas.List.append-nil}
use Rattle.dns_fields.specs.Tlvs.{string}
use Rattle.dns_zone_rows.specs.ParameterLaws.{escaped, IsProtocolName, NamesRead, IsPlainItem, PlainItemsRead}
use Rattle.dns_zone_rows.specs.ParameterLists.{items_from, items_in, unescaped_from, escapes_end_from, IsProtocol, IsItem}
use Rattle.dns_zone_rows.specs.declared.parameters.lists.ListItem.TheVariants.{Protocol}

-- the octets belong to one item, whatever precedes them
record IsWhole (item : List ℕ) : Type 0 where
  goes_on : (front rest : List ℕ) → items_from false front (item ++ rest) ≡ items_from false (front ++ item) rest

none_whole : IsWhole []
none_whole = record { goes_on = λ front rest. ap (λ (x : List ℕ). items_from false x rest) (sym (append-nil front)) }

plain_step : (c : ℕ) (front rest : List ℕ) → eqb c 44 ≡ false → eqb c 92 ≡ false → items_from false front (c ∷ rest) ≡ items_from false (front ++ c ∷ []) rest
plain_step c front rest h k = rw (h, k) refl

kept_step : (c : ℕ) (front rest : List ℕ) → items_from false front (92 ∷ c ∷ rest) ≡ items_from false ((front ++ 92 ∷ []) ++ c ∷ []) rest
kept_step c front rest = refl

one_whole : (c : ℕ) (item : List ℕ) → eqb c 44 ≡ false → eqb c 92 ≡ false → IsWhole item → IsWhole (c ∷ item)
one_whole c item h k whole = record {
  goes_on = λ front rest. plain_step c front (item ++ rest) h k ∙ whole.goes_on (front ++ c ∷ []) rest
      ∙ ap (λ (x : List ℕ). items_from false x rest) (append_assoc front (c ∷ []) item);
}

two_whole : (c : ℕ) (item : List ℕ) → IsWhole item → IsWhole (92 ∷ c ∷ item)
two_whole c item whole = record {
  goes_on = λ front rest. kept_step c front (item ++ rest) ∙ whole.goes_on ((front ++ 92 ∷ []) ++ c ∷ []) rest
      ∙ ap (λ (x : List ℕ). items_from false x rest) (append_assoc (front ++ 92 ∷ []) (c ∷ []) item ∙ append_assoc front (92 ∷ []) (c ∷ item));
}

plain_whole : (item : List ℕ) → IsPlainItem item → IsWhole item
plain_whole [] h = none_whole
plain_whole (c ∷ item) h = let other = h.0 in one_whole c item (grind (arith, nat_tests)) (grind (arith, nat_tests)) (plain_whole item h.1)

neither : (a b : Bool) → a || b ≡ false → (a ≡ false) × (b ≡ false)
neither false b h = (refl, h)
neither true b h = absurd (cc h)

escaped_whole : (name : List ℕ) → IsWhole (escaped name)
escaped_whole [] = none_whole
escaped_whole (c ∷ name) = elim (cases_Bool (eqb c 44 || eqb c 92)) [
  | inl h ↦ rw h (two_whole c (escaped name) (escaped_whole name))
  | inr h ↦ (let k = neither (eqb c 44) (eqb c 92) h in rw h (one_whole c (escaped name) k.0 k.1 (escaped_whole name)))
]

-- ---- joined items

joined_from : (item : List ℕ) (items : List (List ℕ)) (front : List ℕ) → AllByRecursion IsWhole (item ∷ items)
    → items_from false front (join_with_byte 44 (item ∷ items)) ≡ (front ++ item) ∷ items
joined_from item [] front h =
    ap (items_from false front) (sym (append-nil item)) ∙ h.0.goes_on front []
joined_from item (next ∷ items) front h =
    h.0.goes_on front (44 ∷ join_with_byte 44 (next ∷ items)) ∙ ap (λ (x : List (List ℕ)). (front ++ item) ∷ x) (joined_from next items [] h.1)

joined_read : (items : List (List ℕ)) → items ≢ [] → AllByRecursion IsWhole items → items_in (join_with_byte 44 items) ≡ items
joined_read [] some h = absurd (some refl)
joined_read (item ∷ items) some h = joined_from item items [] h

all_whole : (P : List ℕ → Type 0) → ((item : List ℕ) → P item → IsWhole item) → (items : List (List ℕ)) → AllByRecursion P items → AllByRecursion IsWhole items
all_whole P f [] h = tt
all_whole P f (item ∷ items) h = (f item h.0, all_whole P f items h.1)

-- items of only such octets are those that the list is divided into
pub plain_items : (items : List (List ℕ)) → items ≢ [] → AllByRecursion IsPlainItem items → items_in (join_with_byte 44 items) ≡ items
plain_items items some plain = joined_read items some (all_whole IsPlainItem plain_whole items plain)

pub plain_items_read : PlainItemsRead
plain_items_read item items parts some plain each = record {
  parts = parts;
  each = subst (λ (x : List (List ℕ)). AllZip (IsItem item) x parts) (sym (plain_items items some plain)) each;
  joined = refl;
}

-- ---- names

plain_means : (c : ℕ) (item name : List ℕ) → eqb c 92 ≡ false → unescaped_from false item ≡ name → unescaped_from false (c ∷ item) ≡ c ∷ name
plain_means c item name k e = rw k (ap (λ (x : List ℕ). c ∷ x) e)

plain_ends : (c : ℕ) (item : List ℕ) → eqb c 92 ≡ false → escapes_end_from false item ≡ true → escapes_end_from false (c ∷ item) ≡ true
plain_ends c item k e = subst (λ (b : Bool). escapes_end_from b item ≡ true) (sym k) e

means_itself : (name : List ℕ) → (unescaped_from false (escaped name) ≡ name) × (escapes_end_from false (escaped name) ≡ true)
means_itself [] = (refl, refl)
means_itself (c ∷ name) =
    let rest = means_itself name in
    elim (cases_Bool (eqb c 44 || eqb c 92)) [
      | inl h ↦ (rw h (ap (λ (x : List ℕ). c ∷ x) rest.0), rw h rest.1)
      | inr h ↦ (let k = neither (eqb c 44) (eqb c 92) h in (rw h (plain_means c (escaped name) name k.1 rest.0), rw h (plain_ends c (escaped name) k.1 rest.1)))
    ]

is_protocol : (name : List ℕ) → IsProtocolName name → IsProtocol name (escaped name)
is_protocol name h = let own = means_itself name in record { escapes = own.1; value = sym own.0; some = h.0; fits = h.1 }

names_each : (names : List (List ℕ)) → AllByRecursion IsProtocolName names → AllZip (IsItem Protocol) (map escaped names) (map string names)
names_each [] h = tt
names_each (name ∷ names) h = ((name, is_protocol name h.0, refl), names_each names h.1)

names_whole : (names : List (List ℕ)) → AllByRecursion IsWhole (map escaped names)
names_whole [] = tt
names_whole (name ∷ names) = (escaped_whole name, names_whole names)

some_written : (names : List (List ℕ)) → names ≢ [] → map escaped names ≢ []
some_written [] some e = some refl
some_written (name ∷ names) some e = absurd (cc)

strings_joined : (names : List (List ℕ)) → flat_map string names ≡ flat_map (λ (x : List ℕ). x) (map string names)
strings_joined [] = refl
strings_joined (name ∷ names) = ap (λ (x : List ℕ). string name ++ x) (strings_joined names)

pub names_read : NamesRead
names_read names some fit = record {
  parts = map string names;
  each = subst (λ (x : List (List ℕ)). AllZip (IsItem Protocol) x (map string names)) (sym (joined_read (map escaped names) (some_written names some) (names_whole names)))
      (names_each names fit);
  joined = strings_joined names;
}
