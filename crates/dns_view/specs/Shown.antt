-- What a field of a view shows.
use Rattle.std.specs.Prelude.{◌≡◌, ℕ, zero, suc, List, [], ◌∷◌}
use Rattle.std.specs.List.{flat_map}
use Rattle.dns_fields.specs.declared.Kind.{Kind}
use Rattle.dns_fields.specs.declared.Kind.TheVariants as kinds
use Rattle.dns_fields.specs.{Octets.At, Fields.Value, Fields.Values, Fields.Field, Fields.Stands, Tlvs.string}
use Rattle.dns_view.specs.declared.row.field.FieldRef.{FieldRef}
use Rattle.dns_view.specs.declared.row.field.FieldRef.TheVariants as shown

-- Of a field that is encoded from i to q: its value; of a name, the message and the offset where it is encoded, before
-- any pointer; of options, parameters and a bitmap, these octets.
abbrev pub IsShown : List ℕ → ℕ → FieldRef → (k : Kind) → Value k → ℕ → Type 0
IsShown m i (shown.Number n) (kinds.Number w) v q = n ≡ v
IsShown m i (shown.Octets s) (kinds.Octets n) v q = s.now ≡ v
IsShown m i (shown.Name r) kinds.Name v q = (r.message.now ≡ m) × (r.offset ≡ i)
IsShown m i (shown.CharacterString s) kinds.CharacterString v q = s.now ≡ v
IsShown m i (shown.CharacterStrings s) kinds.CharacterStrings v q = s.now ≡ flat_map string v
IsShown m i (shown.Rest s) kinds.Rest v q = s.now ≡ v
IsShown m i (shown.Options s) kinds.Options v q = At m i s.now q
IsShown m i (shown.Parameters s) kinds.Parameters v q = At m i s.now q
IsShown m i (shown.Bitmap s) kinds.Bitmap v q = At m i s.now q
IsShown m i f k v q = ⊥

pub record Shows (m : List ℕ) (i : ℕ) (f : FieldRef) (k : Kind) (v : Value k) (q : ℕ) : Type 0 where
  pub is : IsShown m i f k v q

-- the field of this index among those that follow each other from p to the end
abbrev pub ShowsAt : List ℕ → ℕ → ℕ → (kinds : List Kind) → Values kinds → ℕ → FieldRef → Type 0
ShowsAt m p n [] vs end f = ⊥
ShowsAt m p zero (k ∷ kinds) vs end f = (q : ℕ) × Field m p k vs.0 q × Stands m q kinds vs.1 end × Shows m p f k vs.0 q
ShowsAt m p (suc n) (k ∷ kinds) vs end f = (q : ℕ) × Field m p k vs.0 q × ShowsAt m q n kinds vs.1 end f
