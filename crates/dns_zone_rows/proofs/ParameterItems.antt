-- Items of a list, one by one.
use Rattle.std.proofs.Common.{◌≡◌, ℕ, ◌+◌, ◌<◌, true, false, eqb, get_or, List, [], ◌∷◌, ◌++◌, length, take, drop, refl, sym, ◌∙◌, ap, subst, arith}
use Rattle.std.proofs.Common.{append_assoc, Option, Some, None}
use Rattle.std.specs.List.{AllZip, flat_map}
use Rattle.std.proofs.{lemmas.Grind.flat_map-append, lemmas.Slice.Zip.all_zipped_more, lemmas.List.append-nil}
use Rattle.dns_types.specs.declared.error.ParseError.{ParseError}
use Rattle.dns_tokens.proofs.Steps.{unless_map}
use Rattle.dns_zone_tokens.proofs.{RemainingSteps.one_of_both, TokenSteps.two_passed}
use Rattle.dns_zone_rows.specs.{declared.parameters.lists.ListItem.ListItem, ParameterLists.items_from, ParameterLists.items_in, ParameterLists.IsItem, ParameterLists.IsList, ParameterSteps.DividesItem}
use Rattle.dns_tokens.specs.Reads.{UnlessParseMemory, HoldsOfNone}

-- some items of the text were passed, and these belong to them
pub record ItemsSoFar {Y : Type 0} (R : List ℕ → Y → Type 0) (text rest : List ℕ) (ys : List Y) : Type 0 where
  pub done : List (List ℕ)
  pub divided : items_in text ≡ done ++ items_in rest
  pub each : AllZip R done ys

-- one more item, and others after it
pub one_item : {Y : Type 0} (R : List ℕ → Y → Type 0) (text rest new item : List ℕ) (ys more : List Y) (y : Y) → ItemsSoFar R text rest ys
    → items_in rest ≡ item ∷ items_in new
    → R item y → more ≡ ys ++ y ∷ [] → ItemsSoFar R text new more
one_item {Y} R text rest new item ys more y so first is e = record {
  done = so.done ++ item ∷ [];
  divided = so.divided ∙ ap (λ (l : List (List ℕ)). so.done ++ l) first ∙ sym (append_assoc so.done (item ∷ []) (items_in new));
  each = subst (λ (l : List Y). AllZip R (so.done ++ item ∷ []) l) (sym e) (all_zipped_more R so.done ys item y so.each is);
}

-- the last item
pub last_item : {Y : Type 0} (R : List ℕ → Y → Type 0) (text rest item : List ℕ) (ys more : List Y) (y : Y) → ItemsSoFar R text rest ys
    → items_in rest ≡ item ∷ []
    → R item y → more ≡ ys ++ y ∷ [] → AllZip R (items_in text) more
last_item {Y} R text rest item ys more y so first is e =
    let divided : items_in text ≡ so.done ++ item ∷ [] = so.divided ∙ ap (λ (l : List (List ℕ)). so.done ++ l) first in
    let each : AllZip R (so.done ++ item ∷ []) more =
    subst (λ (l : List Y). AllZip R (so.done ++ item ∷ []) l) (sym e) (all_zipped_more R so.done ys item y so.each is) in
    subst (λ (l : List (List ℕ)). AllZip R l more) (sym divided) each

first_of : (text item : List ℕ) (behind : Option (List ℕ)) → DividesItem text item behind → (more : List (List ℕ)) × (items_in text ≡ item ∷ more)
first_of text item None h = ([], h)
first_of text item (Some rest) h = (items_in rest, h)

-- nothing belongs to an item
pub no_item : {Y : Type 0} (R : List ℕ → Y → Type 0) (text rest item : List ℕ) (behind : Option (List ℕ)) (ys : List Y) → ItemsSoFar R text rest ys
    → DividesItem rest item behind
    → HoldsOfNone (R item) → (zs : List Y) → AllZip R (items_in text) zs → ⊥
no_item R text rest item behind ys so first none zs each =
    let k = first_of rest item behind first in
    let divided : items_in text ≡ so.done ++ item ∷ k.0 = so.divided ∙ ap (λ (l : List (List ℕ)). so.done ++ l) k.1 in
    let one = one_of_both R so.done item k.0 zs (subst (λ (l : List (List ℕ)). AllZip R l zs) divided each) in
    none.none one.0 one.1

-- of lists that belong to the same items, by what determines them, there is one
pub same_both : {X Y : Type 0} (R : X → Y → Type 0) → ((x : X) (a b : Y) → R x a → R x b → a ≡ b) → (xs : List X) (ys zs : List Y) → AllZip R xs ys
    → AllZip R xs zs → ys ≡ zs
same_both R one [] [] [] h k = refl
same_both R one [] [] (c ∷ zs) h k = absurd k
same_both R one [] (b ∷ ys) zs h k = absurd h
same_both R one (a ∷ xs) [] zs h k = absurd h
same_both R one (a ∷ xs) (b ∷ ys) [] h k = absurd k
same_both {X} {Y} R one (a ∷ xs) (b ∷ ys) (c ∷ zs) h k =
    let e : b ≡ c = one a b c h.0 k.0 in
    let f : ys ≡ zs = same_both R one xs ys zs h.1 k.1 in
    cc

-- ---- the octets of an item

pair : (front : List ℕ) (c d : ℕ) (text : List ℕ) → eqb c 44 ≡ false → eqb c 92 ≡ true
    → items_from false front (c ∷ d ∷ text) ≡ items_from false ((front ++ c ∷ []) ++ d ∷ []) text
pair front c d text h e = rw (h, e) refl

-- a `\` and the octet after it belong to the item
pub two_more : (text : List ℕ) (n : ℕ) → items_from false [] text ≡ items_from false (take n text) (drop n text) → n + 1 < length text
    → eqb (get_or text n 0) 44 ≡ false → eqb (get_or text n 0) 92 ≡ true → items_from false [] text ≡ items_from false (take (n + 2) text) (drop (n + 2) text)
two_more text n so lt h e =
    two_passed (items_from false) text n so lt (pair (take n text) (get_or text n 0) (get_or text (n + 1) 0) (drop (n + 1 + 1) text) h e)

-- ---- what lists are made of

-- nothing belongs to one of the items
pub none_of : {Y : Type 0} (R : List ℕ → Y → Type 0) (e : ParseError) (text rest item : List ℕ) (behind : Option (List ℕ)) (ys : List Y)
    → ItemsSoFar R text rest ys → DividesItem rest item behind
    → UnlessParseMemory e (HoldsOfNone (R item)) → UnlessParseMemory e (HoldsOfNone (AllZip R (items_in text)))
none_of R e text rest item behind ys so first none = unless_map e (HoldsOfNone (R item)) (HoldsOfNone (AllZip R (items_in text)))
    (λ h. record { none = λ zs each. no_item R text rest item behind ys so first h zs each }) none

pub no_list : (item : ListItem) (e : ParseError) (text : List ℕ) → UnlessParseMemory e (HoldsOfNone (AllZip (IsItem item) (items_in text)))
    → UnlessParseMemory e (HoldsOfNone (IsList item text))
no_list item e text none = unless_map e (HoldsOfNone (AllZip (IsItem item) (items_in text))) (HoldsOfNone (IsList item text))
    (λ h. record { none = λ v is. h.none is.parts is.each }) none

pub joined_more : (parts : List (List ℕ)) (part old new : List ℕ) → old ≡ flat_map (λ (x : List ℕ). x) parts → new ≡ old ++ part
    → new ≡ flat_map (λ (x : List ℕ). x) (parts ++ part ∷ [])
joined_more parts part old new e f =
    f ∙ ap (λ (x : List ℕ). x ++ part) e ∙ sym (flat_map-append (λ (x : List ℕ). x) parts (part ∷ [])
    ∙ ap (λ (x : List ℕ). flat_map (λ (y : List ℕ). y) parts ++ x) (append-nil part))
