-- What a rule asks of one field, apart from the rest of the row.
use Rattle.std.proofs.Common.{◌≡◌, ℕ, ◌+◌, ◌≤◌, List, [], ◌∷◌, length, refl, arith}
use Rattle.dns_fields.specs.declared.Kind.{Kind}
use Rattle.dns_fields.specs.declared.Kind.TheVariants.{Number, Octets, Name, CharacterString, Rest}
use Rattle.dns_fields.specs.declared.Kind.TheVariants.{Parameters}
use Rattle.dns_fields.specs.{Fields.Value, Fields.Field}
use Rattle.dns_fields.proofs.{Numbers.length-bytes, FieldLaws.field_inside, Stays.end_within}
use Rattle.dns_rows.specs.declared.row.{Part.Part, Rule.Rule}
use Rattle.dns_rows.specs.declared.row.Rule.TheVariants as rules
use Rattle.dns_rows.specs.{Rules.also, Rules.MeetsRow}
use Rattle.dns_check.specs.{Parts.Asks, Parts.IsUnasked, Rows.fewest_of, Rows.fewest, Rows.HasRow}

pub asks_join : (rule : Rule) (k : Kind) (v : Value k) (X : Type 0) → Asks rule k v → X → also rule k v X
asks_join rules.Letters CharacterString v X a x = (a.0, x)
asks_join rules.Tag CharacterString v X a x = (a.0, x)
asks_join rules.KnownFlags (Number w) v X a x = (a.0, x)
asks_join rules.Some Rest v X a x = (a.0, x)
asks_join rules.Paths Parameters v X a x = (a.0, x)
asks_join rule k v X a x = x

pub asks_split : (rule : Rule) (k : Kind) (v : Value k) (X : Type 0) → also rule k v X → Asks rule k v × X
asks_split rules.Letters CharacterString v X h = ((h.0, tt), h.1)
asks_split rules.Tag CharacterString v X h = ((h.0, tt), h.1)
asks_split rules.KnownFlags (Number w) v X h = ((h.0, tt), h.1)
asks_split rules.Some Rest v X h = ((h.0, tt), h.1)
asks_split rules.Paths Parameters v X h = ((h.0, tt), h.1)
asks_split rule k v X h = (tt, h)

pub unasked : (rule : Rule) (k : Kind) (v : Value k) → IsUnasked rule k → Asks rule k v
unasked rules.Letters CharacterString v u = absurd u
unasked rules.Tag CharacterString v u = absurd u
unasked rules.KnownFlags (Number w) v u = absurd u
unasked rules.Some Rest v u = absurd u
unasked rules.Paths Parameters v u = absurd u
unasked rule k v u = tt

-- ---- how many octets fields have at least

some_octets : (s : List ℕ) → (s ≡ [] → ⊥) → 1 ≤ length s
some_octets [] h = absurd (h refl)
some_octets (x ∷ s) h = omega arith

field_fewest : {m : List ℕ} {p q : ℕ} (rule : Rule) (k : Kind) (v : Value k) → Asks rule k v → Field m p k v q → p + fewest_of rule k ≤ q
field_fewest rule (Number w) v a f = omega (arith, f.is.1.ends, length-bytes w v)
field_fewest rule (Octets n) v a f = omega (arith, f.is.1.ends, f.is.0)
field_fewest rule Name v a f = omega (arith, (end_within f.is.stands).0)
field_fewest rule CharacterString v a f = omega (arith, f.is.1.ends)
field_fewest rules.Some Rest v a f = omega (arith, f.is.ends, some_octets v a.0)
field_fewest rule k v a f = omega (arith, (field_inside f).0)

pub row_fewest : (m : List ℕ) (p : ℕ) (row : List Part) (e : ℕ) → HasRow m p row e → p + fewest row ≤ e
row_fewest m p [] e h = omega (arith, h.stands)
row_fewest m p (part ∷ row) e h =
    let a = asks_split part.rule part.kind h.values.0 (MeetsRow row h.values.1) h.meets in
    let first = field_fewest part.rule part.kind h.values.0 a.0 h.stands.1 in
    let rest = row_fewest m h.stands.0 row e (record { values = h.values.1; stands = h.stands.2; meets = a.1 }) in
    omega (arith, first, rest)
