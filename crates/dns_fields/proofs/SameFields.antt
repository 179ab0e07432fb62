-- Fields that are equal are the same, and can be emitted both or not.
use Rattle.std.specs.Prelude.{◌≡◌, ℕ, Bool, true, false, not, ◌&&◌, ◌||◌, List, [], ◌∷◌, length, nat_le, refl}
use Rattle.std.proofs.Common.{ap, ◌∙◌, sym}
use Rattle.std.specs.{Cmp.Lexicographic.pointwise_decides, List.list_all, List.list_any, List.Sorted.IsPermutation}
use Rattle.std.specs.Cmp.{first_so, second_so, unsigned_Decides}
use Rattle.std.proofs.lemmas.List.Sorted.{list_any-IsPermutation}
use Rattle.dns_fields.specs.{Labels.lowname, Equal.kind_eq, Equal.values_eq}
use Rattle.dns_fields.specs.Fields.{Value, Values, SameField, Same}
use Rattle.dns_fields.specs.declared.Kind.{Kind, TheVariants.Name, TheVariants.CharacterString, TheVariants.CharacterStrings, TheVariants.Options}
use Rattle.dns_fields.specs.declared.Kind.{TheVariants.Parameters}
use Rattle.dns_fields.specs.Fields.{is_emittable, all_emittable}
use Rattle.dns_fields.specs.Tlvs.{option_octets, option_emittable, parameters_emittable}
use Rattle.dns_fields.proofs.EqualLaws.{field_decide}

field_same : (k : Kind) (a b : Value k) → kind_eq k a b ≡ true → SameField k a b
field_same Name a b h = record { is = record { low = (pointwise_decides unsigned_Decides (lowname a) (lowname b)).0 (first_so _ _ h) } }
field_same k a b h = (field_decide k a b tt tt).0 h

pub equal_same : (s : List Kind) (a b : Values s) → values_eq s a b ≡ true → Same s a b
equal_same [] a b h = tt
equal_same (k ∷ s) a b h =
    (field_same k a.0 b.0 (first_so (kind_eq k a.0 b.0) (values_eq s a.1 b.1) h), equal_same s a.1 b.1 (second_so (kind_eq k a.0 b.0) (values_eq s a.1 b.1) h))

all_any : {X : Type 0} (p : X → Bool) (xs : List X) → list_all p xs ≡ not (list_any (λ x. not (p x)) xs)
all_any p [] = refl
all_any p (x ∷ xs) = ap (λ b. p x && b) (all_any p xs) ∙ either (p x) (list_any (λ y. not (p y)) xs)
  where
    either : (a b : Bool) → a && not b ≡ not (not a || b)
    either true b = refl
    either false b = refl

-- of two orders of one list all pass a test, or none
all_permutes : {X : Type 0} (p : X → Bool) (xs ys : List X) → IsPermutation xs ys → list_all p xs ≡ list_all p ys
all_permutes p xs ys h = all_any p xs ∙ ap not (list_any-IsPermutation (λ x. not (p x)) xs ys h) ∙ sym (all_any p ys)

emittable_field : (k : Kind) (a b : Value k) → SameField k a b → is_emittable k a ≡ is_emittable k b
emittable_field CharacterString a b s = ap (λ (x : List ℕ). nat_le (length x) 255) s.is
emittable_field CharacterStrings a b s = ap (list_all (λ (x : List ℕ). nat_le (length x) 255)) s.is
emittable_field Options a b s = all_permutes (λ x. nat_le (length (option_octets x.1)) 65535 && option_emittable x.1) a b s.is
emittable_field Parameters a b s = ap parameters_emittable s.is
emittable_field k a b s = refl

pub emittable_same : (s : List Kind) (a b : Values s) → Same s a b → all_emittable s a ≡ all_emittable s b
emittable_same [] a b h = refl
emittable_same (k ∷ s) a b h = let e = emittable_field k a.0 b.0 h.0 in let f = emittable_same s a.1 b.1 h.1 in rw (e, f) refl
