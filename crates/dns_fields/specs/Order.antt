-- The order of fields. Of options and parameters it is that of values that were read, as their equality is.
use Rattle.std.specs.Prelude.{List, [], ◌∷◌}
use Rattle.std.specs.{Cmp.Lexicographic.slice_cmp, Ordering.nat_cmp, Ordering.ordering_then, declared.cmp.Ordering.Ordering}
use Rattle.std.specs.declared.cmp.Ordering.TheVariants.{Equal}
use Rattle.dns_fields.specs.{Comparing.name_cmp, Equal.key_cmp, Equal.option_keys, Equal.parameter_keys}
use Rattle.dns_fields.specs.Fields.{Value, Values}
use Rattle.dns_fields.specs.declared.Kind.{Kind, TheVariants.Number, TheVariants.Octets, TheVariants.Name}
use Rattle.dns_fields.specs.declared.Kind.{TheVariants.CharacterString, TheVariants.CharacterStrings, TheVariants.Rest}
use Rattle.dns_fields.specs.declared.Kind.{TheVariants.Options, TheVariants.Parameters, TheVariants.Bitmap}

abbrev pub kind_cmp : (k : Kind) → Value k → Value k → Ordering
kind_cmp (Number w) a b = nat_cmp a b
kind_cmp (Octets n) a b = slice_cmp nat_cmp a b
kind_cmp Name a b = name_cmp a b
kind_cmp CharacterString a b = slice_cmp nat_cmp a b
kind_cmp CharacterStrings a b = slice_cmp (slice_cmp nat_cmp) a b
kind_cmp Rest a b = slice_cmp nat_cmp a b
kind_cmp Options a b = slice_cmp key_cmp (option_keys a) (option_keys b)
kind_cmp Parameters a b = slice_cmp key_cmp (parameter_keys a) (parameter_keys b)
kind_cmp Bitmap a b = slice_cmp nat_cmp a b

-- by the first field that differs
abbrev pub values_cmp : (kinds : List Kind) → Values kinds → Values kinds → Ordering
values_cmp [] a b = Equal
values_cmp (k ∷ kinds) a b = ordering_then (kind_cmp k a.0 b.0) (values_cmp kinds a.1 b.1)
