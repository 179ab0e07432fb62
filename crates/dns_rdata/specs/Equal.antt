-- When two values of RDATA are equal, and that this is an equivalence.
use Rattle.std.specs.Prelude.{◌≡◌, Bool, true, List, [], ◌∷◌}
use Rattle.std.specs.{Cmp.Lexicographic.options_equiv, Option.option_eq, Ordering.on, Ordering.eq_of_both}
use Rattle.std.specs.Cmp.{IsEquivalence, and_equiv, on_equiv, second_so}
use Rattle.dns_fields.specs.Equal.{values_eq}
use Rattle.dns_fields.proofs.Equivalences.{values_equiv}
use Rattle.dns_types.specs.declared.record_type.RecordType.{RecordType}
use Rattle.dns_types.specs.contracts.record_type.RecordTypePartialEq.TheImpl as type_eq
use Rattle.dns_types.specs.contracts.record_type.RecordTypeEq.TheImpl.Laws as type_laws
use Rattle.dns_rdata_options.specs.{Order.opt_eq, OrderLaws.opt_equiv}
use Rattle.dns_rdata.specs.{declared.record_data.RData.RData, Data.type_of, Keys.VariantKey, Keys.fields, Keys.options, Keys.variant_keys}

abbrev pub record_type_eq : RecordType → RecordType → Bool
record_type_eq = type_eq.ghosts.eq

-- both are of the key's variant and have equal keys, or neither is of it
abbrev pub variant_key_eq : VariantKey → RData → RData → Bool
variant_key_eq (fields kinds held) = on held (option_eq (values_eq kinds))
variant_key_eq (options held) = on held (option_eq opt_eq)

-- by the keys of each variant, and by type
abbrev pub keys_eq : List VariantKey → RData → RData → Bool
keys_eq [] = on type_of record_type_eq
keys_eq (key ∷ rest) = eq_of_both (variant_key_eq key) (keys_eq rest)

-- of one variant and one type, with equal fields
abbrev pub equal : RData → RData → Bool
equal = keys_eq variant_keys

pub types_equal : (given : List VariantKey) (v w : RData) → keys_eq given v w ≡ true
    → record_type_eq (type_of v) (type_of w) ≡ true
types_equal [] v w h = h
types_equal (key ∷ rest) v w h = types_equal rest v w (second_so (variant_key_eq key v w) (keys_eq rest v w) h)

variant_key_equiv : (key : VariantKey) → IsEquivalence (variant_key_eq key)
variant_key_equiv (fields kinds held) = on_equiv held (options_equiv (values_equiv kinds))
variant_key_equiv (options held) = on_equiv held (options_equiv opt_equiv)

keys_equiv : (given : List VariantKey) → IsEquivalence (keys_eq given)
keys_equiv [] = on_equiv type_of type_laws.laws-law
keys_equiv (key ∷ rest) = and_equiv (variant_key_equiv key) (keys_equiv rest)

pub equal_equiv : IsEquivalence equal
equal_equiv = keys_equiv variant_keys
