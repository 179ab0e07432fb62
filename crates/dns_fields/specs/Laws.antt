-- What holds of every list of kinds.
use Rattle.std.specs.Prelude.{◌≡◌, ◌↔◌, ℕ, List, [], ◌∷◌, length}
use Rattle.dns_fields.specs.{declared.RDataEncoding.RDataEncoding, Octets.AreOctets, Equal.values_eq, Order.values_cmp}
use Rattle.dns_fields.specs.Fields.{Value, Values, Field, Stands, canonical, AllFit, AllLawful, AllFull, Wrote, Same}
use Rattle.dns_fields.specs.Fields.{EndsItself}
use Rattle.dns_fields.specs.declared.Kind.{Kind}
use Rattle.std.specs.{Bool.Decides, Cmp.IsEquivalence, Cmp.IsTotalOrder, Ordering.is_eq}

-- each field but the last says where it ends
abbrev pub IsShape : List Kind → Type 0
IsShape [] = Unit {0}
IsShape (k ∷ []) = Unit {0}
IsShape (k ∷ l ∷ kinds) = EndsItself k × IsShape (l ∷ kinds)

-- values that are encoded can be emitted, can be read, and are one
abbrev pub StandsLaw : Type 0
StandsLaw = (m : List ℕ) (p : ℕ) (s : List Kind) (a : Values s) (e : ℕ) → IsShape s → Stands m p s a e
    → AllFit s a × AllLawful s a × ((b : Values s) → Stands m p s b e → a ≡ b)

-- a field that says itself where it ends has one end
abbrev pub OneEnd : Type 0
OneEnd = (m : List ℕ) (p : ℕ) (k : Kind) (a b : Value k) (e f : ℕ) → EndsItself k → Field m p k a e → Field m p k b f
    → e ≡ f

-- equal values have equal canonical octets, and no others
abbrev pub CanonicalLaw : Type 0
CanonicalLaw = (s : List Kind) (a b : Values s) → IsShape s → AllFit s a → AllLawful s a → AllFit s b → AllLawful s b
    → (canonical s a ≡ canonical s b) ↔ Same s a b

-- canonical octets are read as an equal value
abbrev pub CanonicalReads : Type 0
CanonicalReads = (s : List Kind) (a : Values s) → AllFit s a → AllLawful s a
    → (b : Values s) × Same s a b × Stands (canonical s a) 0 s b (length (canonical s a))

-- what was written is read as an equal value
abbrev pub WrittenReads : Type 0
WrittenReads = (mode : RDataEncoding) (m : List ℕ) (s : List Kind) (a : Values s) (m' : List ℕ) → AllLawful s a
    → Wrote mode m s a m'
    → (b : Values s) × Same s a b × Stands m' (length m) s b (length m')

-- the canonical octets of values that are read from octets are octets
abbrev pub OctetsLaw : Type 0
OctetsLaw = (m : List ℕ) (p : ℕ) (s : List Kind) (a : Values s) (e : ℕ) → AreOctets m → Stands m p s a e
    → AreOctets (canonical s a)

-- `==` tells whether values are the same, if their names are fully qualified, as those that are read are
abbrev pub EqualLaw : Type 0
EqualLaw = (s : List Kind) (a b : Values s) → AllFull s a → AllFull s b → Decides (values_eq s a b) (Same s a b)

-- `==` is an equivalence, also of values with relative names
abbrev pub EquivalenceLaw : Type 0
EquivalenceLaw = (s : List Kind) → IsEquivalence (values_eq s)

-- the order is total
abbrev pub OrderLaw : Type 0
OrderLaw = (s : List Kind) → IsTotalOrder (values_cmp s)

-- the order is Equal exactly if `==` holds
abbrev pub TiesLaw : Type 0
TiesLaw = (s : List Kind) (a b : Values s) → values_eq s a b ≡ is_eq (values_cmp s a b)
