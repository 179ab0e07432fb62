-- The fields and the names that a view lends, one after the other.
use Rattle.std.specs.Prelude.{◌≡◌, ℕ, ◌+◌, ◌≤◌, List, length, Option, Some, slice_get, MatchOption}
use Rattle.dns_types.specs.declared.record_type.RecordType.{RecordType}
use Rattle.dns_view.specs.declared.{row.field.FieldRef.FieldRef, name.name_ref.NameRef.NameRef}
use Rattle.dns_view.specs.{Shown.ShowsAt, NameFields.names_in, NameFields.ShowsNameAt}
use Rattle.dns_rdata.specs.{declared.record_data.RData.RData, Data.Fills, Data.fields_of, Views.IsViewOf}
use Rattle.dns_rdata.specs.declared.view_fields.{Fields.Fields, Names.Names}

-- in the n octets of RDATA at p, the field of this index of the value
abbrev pub ShowsField : List ℕ → ℕ → ℕ → RData → ℕ → FieldRef → Type 0
ShowsField m p n v i f = ShowsAt m p i (fields_of v).kinds (fields_of v).values (p + n) f

-- as many as the value has fields, and each shows the field of its index in the n octets of RDATA at p
pub record AreFields (m : List ℕ) (p n : ℕ) (v : RData) (xs : List FieldRef) : Type 0 where
  pub count : length xs ≡ length (fields_of v).kinds
  pub each : (i : ℕ) (f : FieldRef) → slice_get xs i ≡ Some f → ShowsField m p n v i f

-- as many as the value has names, and each shows the name of its index in the RDATA at p
pub record AreNames (m : List ℕ) (p : ℕ) (v : RData) (xs : List NameRef) : Type 0 where
  pub count : length xs ≡ names_in (fields_of v).kinds
  pub each : (i : ℕ) (r : NameRef) → slice_get xs i ≡ Some r → ShowsNameAt m p (fields_of v).kinds (fields_of v).values i r

-- a call returned the field of the index, and the index rose; or the value has no such field
pub record NextField (s : Fields) (r : Option FieldRef) (t : Fields) : Type 0 where
  pub rdata : t.rdata ≡ s.rdata
  pub on : MatchOption r (t.index ≡ s.index) (λ f. t.index ≡ s.index + 1)
  pub shows : (m : List ℕ) (p n : ℕ) (ty : RecordType) (v : RData) → IsViewOf m p n ty s.rdata → Fills m p n ty v
      → MatchOption r (length (fields_of v).kinds ≤ s.index) (λ f. ShowsField m p n v s.index f)

-- the same of the names
pub record NextName (s : Names) (r : Option NameRef) (t : Names) : Type 0 where
  pub rdata : t.rdata ≡ s.rdata
  pub on : MatchOption r (t.index ≡ s.index) (λ f. t.index ≡ s.index + 1)
  pub shows : (m : List ℕ) (p n : ℕ) (ty : RecordType) (v : RData) → IsViewOf m p n ty s.rdata → Fills m p n ty v
      → MatchOption r (names_in (fields_of v).kinds ≤ s.index)
      (λ r. ShowsNameAt m p (fields_of v).kinds (fields_of v).values s.index r)
