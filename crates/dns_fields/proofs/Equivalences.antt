-- Equality of fields is an equivalence.
use Rattle.std.specs.Prelude.{[], ◌∷◌, List}
use Rattle.std.specs.{Cmp.IsEquivalence, Cmp.and_equiv, Cmp.on_equiv, Cmp.bool_eq_equiv, Cmp.nat_eq_equiv, Cmp.Derive.point_equiv}
use Rattle.std.specs.Cmp.Lexicographic.{pointwise, lists_equiv, nat_list_eq_equiv, on_texts_equal}
use Rattle.dns_fields.specs.{Labels.lowname, Comparing.is_qualified, Equal.key_eq, Equal.option_keys, Equal.parameter_keys, Equal.kind_eq}
use Rattle.dns_fields.specs.{Equal.values_eq, declared.Kind.Kind, declared.Kind.TheVariants.Number, declared.Kind.TheVariants.Name}
use Rattle.dns_fields.specs.{declared.Kind.TheVariants.CharacterStrings, declared.Kind.TheVariants.Options, declared.Kind.TheVariants.Parameters, Fields.Values}

keys_equiv : IsEquivalence (pointwise key_eq)
keys_equiv = lists_equiv (lists_equiv nat_list_eq_equiv)

pub kind_equiv : (k : Kind) → IsEquivalence (kind_eq k)
kind_equiv (Number w) = nat_eq_equiv
kind_equiv Name = and_equiv (on_texts_equal lowname) (on_equiv is_qualified bool_eq_equiv)
kind_equiv CharacterStrings = lists_equiv nat_list_eq_equiv
kind_equiv Options = on_equiv option_keys keys_equiv
kind_equiv Parameters = on_equiv parameter_keys keys_equiv
kind_equiv k = nat_list_eq_equiv

pub values_equiv : (kinds : List Kind) → IsEquivalence (values_eq kinds)
values_equiv [] = point_equiv
values_equiv (k ∷ kinds) = and_equiv (on_equiv (λ (a : Values (k ∷ kinds)). a.0) (kind_equiv k))
    (on_equiv (λ (a : Values (k ∷ kinds)). a.1) (values_equiv kinds))
