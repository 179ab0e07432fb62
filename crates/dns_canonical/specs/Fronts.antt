-- The order of canonical octets, and field by field.
use Rattle.std.specs.Prelude.{◌≡◌, List, [], ◌∷◌, length}
use Rattle.std.specs.{Cmp.Lexicographic.slice_cmp, Ordering.nat_cmp, Ordering.ordering_then, declared.cmp.Ordering.Ordering}
use Rattle.dns_fields.specs.Fields.{Value, Values, canonical, field_octets}
use Rattle.dns_fields.specs.declared.Kind.{Kind, TheVariants.Number, TheVariants.Octets, TheVariants.Name}
use Rattle.dns_fields.specs.declared.Kind.{TheVariants.CharacterString}
use Rattle.dns_fields.specs.Labels.{AreLabels}

-- by the first difference of the canonical octets, a proper beginning before what goes on
abbrev pub canonical_cmp : (kinds : List Kind) → Values kinds → Values kinds → Ordering
canonical_cmp kinds a b = slice_cmp nat_cmp (canonical kinds a) (canonical kinds b)

-- by one field
abbrev pub field_cmp : (k : Kind) → Value k → Value k → Ordering
field_cmp k a b = slice_cmp nat_cmp (field_octets k a) (field_octets k b)

-- after fields that were compared so
abbrev pub fields_cmp : Ordering → (kinds : List Kind) → Values kinds → Values kinds → Ordering
fields_cmp o [] a b = o
fields_cmp o (k ∷ kinds) a b = fields_cmp (ordering_then o (field_cmp k a.0 b.0)) kinds a.1 b.1

-- two of which neither is a proper beginning of the other, or which nothing comes behind
abbrev pub EndsAlike : (k : Kind) → Value k → Value k → List Kind → Type 0
EndsAlike (Number w) a b kinds = Unit {0}
EndsAlike (Octets n) a b kinds = length a ≡ length b
EndsAlike CharacterString a b kinds = Unit {0}
EndsAlike Name a b kinds = AreLabels a.labels × AreLabels b.labels
EndsAlike k a b [] = Unit {0}
EndsAlike k a b (j ∷ kinds) = ⊥

abbrev pub AllEndAlike : (kinds : List Kind) → Values kinds → Values kinds → Type 0
AllEndAlike [] a b = Unit {0}
AllEndAlike (k ∷ kinds) a b = EndsAlike k a.0 b.0 kinds × AllEndAlike kinds a.1 b.1
