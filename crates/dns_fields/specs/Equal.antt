-- When fields are equal. Of options and parameters this is the equality of values that were read: a value that a caller
-- builds may have parts that no octets give, as two variants of a code with one number, and is compared by keys of its
-- own.
use Rattle.std.specs.Prelude.{ℕ, Bool, true, ◌&&◌, List, [], ◌∷◌, map, nat_eq}
use Rattle.std.specs.{Cmp.Lexicographic.pointwise, Cmp.Lexicographic.slice_cmp, Ordering.nat_cmp, declared.cmp.Ordering.Ordering}
use Rattle.dns_fields.specs.{Sorting.sorted, Comparing.name_eq}
use Rattle.dns_fields.specs.Tlvs.{Numbered, OptionValue, Subnet, OpaqueOption, ParameterValue, Mandatory, Alpn, NoDefaultAlpn, Port, Ipv4Hint, Ipv6Hint}
use Rattle.dns_fields.specs.Tlvs.{Opaque}
use Rattle.dns_fields.specs.Fields.{Value, Values}
use Rattle.dns_fields.specs.declared.Kind.{Kind, TheVariants.Number, TheVariants.Octets, TheVariants.Name}
use Rattle.dns_fields.specs.declared.Kind.{TheVariants.CharacterString, TheVariants.CharacterStrings, TheVariants.Rest}
use Rattle.dns_fields.specs.declared.Kind.{TheVariants.Options, TheVariants.Parameters, TheVariants.Bitmap}

-- a pair as lists of numbers: its number and what its value is, and then what the value holds
abbrev pub Key : Type 0
Key = List (List ℕ)

abbrev pub key_eq : Key → Key → Bool
key_eq = pointwise (pointwise nat_eq)

abbrev pub key_cmp : Key → Key → Ordering
key_cmp = slice_cmp (slice_cmp nat_cmp)

abbrev pub option_key_of : ℕ → OptionValue → Key
option_key_of code (Subnet family source scope address) =
    (code ∷ 0 ∷ []) ∷ (family ∷ source ∷ scope ∷ []) ∷ address ∷ []
option_key_of code (OpaqueOption s) = (code ∷ 1 ∷ []) ∷ s ∷ []

abbrev pub option_key : Numbered OptionValue → Key
option_key x = option_key_of x.0 x.1

abbrev pub parameter_key_of : ℕ → ParameterValue → Key
parameter_key_of key (Mandatory keys) = (key ∷ 0 ∷ []) ∷ keys ∷ []
parameter_key_of key (Alpn names) = (key ∷ 1 ∷ []) ∷ names
parameter_key_of key NoDefaultAlpn = (key ∷ 2 ∷ []) ∷ []
parameter_key_of key (Port n) = (key ∷ 3 ∷ []) ∷ (n ∷ []) ∷ []
parameter_key_of key (Ipv4Hint addresses) = (key ∷ 4 ∷ []) ∷ addresses
parameter_key_of key (Ipv6Hint addresses) = (key ∷ 5 ∷ []) ∷ addresses
parameter_key_of key (Opaque s) = (key ∷ 6 ∷ []) ∷ s ∷ []

abbrev pub parameter_key : Numbered ParameterValue → Key
parameter_key x = parameter_key_of x.0 x.1

-- options have no order of their own: their keys in rising order
abbrev pub option_keys : List (Numbered OptionValue) → List Key
option_keys v = sorted key_cmp (map option_key v)

abbrev pub parameter_keys : List (Numbered ParameterValue) → List Key
parameter_keys v = map parameter_key v

-- names but for ASCII case, their marks told apart; options in any order
abbrev pub kind_eq : (k : Kind) → Value k → Value k → Bool
kind_eq (Number w) a b = nat_eq a b
kind_eq (Octets n) a b = pointwise nat_eq a b
kind_eq Name a b = name_eq a b
kind_eq CharacterString a b = pointwise nat_eq a b
kind_eq CharacterStrings a b = pointwise (pointwise nat_eq) a b
kind_eq Rest a b = pointwise nat_eq a b
kind_eq Options a b = pointwise key_eq (option_keys a) (option_keys b)
kind_eq Parameters a b = pointwise key_eq (parameter_keys a) (parameter_keys b)
kind_eq Bitmap a b = pointwise nat_eq a b

-- each field is equal
abbrev pub values_eq : (kinds : List Kind) → Values kinds → Values kinds → Bool
values_eq [] a b = true
values_eq (k ∷ kinds) a b = kind_eq k a.0 b.0 && values_eq kinds a.1 b.1
