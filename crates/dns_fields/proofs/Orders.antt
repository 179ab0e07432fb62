-- The order of fields is total, and answers Equal exactly where `==` holds.
use Rattle.std.specs.Prelude.{◌≡◌, Bool, true, false, List, [], ◌∷◌, refl}
use Rattle.std.specs.{Bool.beq, Cmp.Derive.point_total, Ordering.nat_cmp, Ordering.bool_cmp, Ordering.is_eq}
use Rattle.std.specs.Cmp.{IsTotalOrder, then_total, on_total, nat_cmp_total, bool_cmp_total, unsigned_ties, both_tied}
use Rattle.std.specs.Cmp.Lexicographic.{pointwise, slice_cmp, lists_total, lists_ties, texts_ties, nat_list_cmp_total}
use Rattle.dns_fields.specs.{Labels.lowname, Comparing.is_qualified, Order.kind_cmp, Order.values_cmp}
use Rattle.dns_fields.specs.Equal.{Key, key_eq, key_cmp, option_keys, parameter_keys, kind_eq, values_eq}
use Rattle.dns_fields.specs.Fields.{Value, Values}
use Rattle.dns_fields.specs.declared.Kind.{Kind, TheVariants.Number, TheVariants.Name, TheVariants.CharacterStrings, TheVariants.Options}
use Rattle.dns_fields.specs.declared.Kind.{TheVariants.Parameters}

pub key_total : IsTotalOrder key_cmp
key_total = lists_total nat_list_cmp_total

pub kind_total : (k : Kind) → IsTotalOrder (kind_cmp k)
kind_total (Number w) = nat_cmp_total
kind_total Name = then_total (on_total lowname nat_list_cmp_total) (on_total is_qualified bool_cmp_total)
kind_total CharacterStrings = lists_total nat_list_cmp_total
kind_total Options = on_total option_keys (lists_total key_total)
kind_total Parameters = on_total parameter_keys (lists_total key_total)
kind_total k = nat_list_cmp_total

pub values_total : (kinds : List Kind) → IsTotalOrder (values_cmp kinds)
values_total [] = point_total
values_total (k ∷ kinds) = then_total (on_total (λ (a : Values (k ∷ kinds)). a.0) (kind_total k))
    (on_total (λ (a : Values (k ∷ kinds)). a.1) (values_total kinds))

booleans_tie : (a b : Bool) → beq a b ≡ is_eq (bool_cmp a b)
booleans_tie true true = refl
booleans_tie true false = refl
booleans_tie false true = refl
booleans_tie false false = refl

keys_tie : (a b : List Key) → pointwise key_eq a b ≡ is_eq (slice_cmp key_cmp a b)
keys_tie a b = lists_ties key_cmp (lists_ties (slice_cmp nat_cmp) texts_ties) a b

pub kind_ties : (k : Kind) (a b : Value k) → kind_eq k a b ≡ is_eq (kind_cmp k a b)
kind_ties (Number w) a b = unsigned_ties a b
kind_ties Name a b = both_tied _ _ (slice_cmp nat_cmp (lowname a) (lowname b)) (bool_cmp a.fully_qualified b.fully_qualified)
    (texts_ties (lowname a) (lowname b)) (booleans_tie a.fully_qualified b.fully_qualified)
kind_ties CharacterStrings a b = lists_ties (slice_cmp nat_cmp) texts_ties a b
kind_ties Options a b = keys_tie (option_keys a) (option_keys b)
kind_ties Parameters a b = keys_tie (parameter_keys a) (parameter_keys b)
kind_ties k a b = texts_ties a b

-- `==` holds exactly where the order answers Equal
pub values_ties : (kinds : List Kind) (a b : Values kinds) → values_eq kinds a b ≡ is_eq (values_cmp kinds a b)
values_ties [] a b = refl
values_ties (k ∷ kinds) a b = both_tied _ _ (kind_cmp k a.0 b.0) (values_cmp kinds a.1 b.1) (kind_ties k a.0 b.0) (values_ties kinds a.1 b.1)
