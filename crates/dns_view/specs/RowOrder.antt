-- Fields that are compared as they are encoded.
use Rattle.std.specs.Prelude.{◌≡◌, ℕ, ◌+◌, List, [], ◌∷◌}
use Rattle.dns_fields.specs.declared.Kind.{Kind}
use Rattle.dns_fields.specs.declared.Kind.TheVariants.{Name, Options, Parameters, Bitmap}
use Rattle.dns_fields.specs.Fields.{Value, Field}
use Rattle.dns_rows.specs.declared.row.Part.{Part}
use Rattle.dns_check.specs.Parts.{Reaches}

-- the octets that are encoded are the canonical ones
abbrev pub IsPlain : Kind → Type 0
IsPlain Name = ⊥
IsPlain Options = ⊥
IsPlain Parameters = ⊥
IsPlain Bitmap = ⊥
IsPlain k = Unit {0}

abbrev pub ArePlain : List Part → Type 0
ArePlain [] = Unit {0}
ArePlain (p ∷ row) = IsPlain p.kind × ArePlain row

-- a field of this kind, if one is there in RDATA up to `end`, has so many octets
pub record Sized (m : List ℕ) (p : ℕ) (k : Kind) (end size : ℕ) : Type 0 where
  pub is : (v : Value k) (q : ℕ) → IsPlain k → Field m p k v q → Reaches k end q → q ≡ p + size
