-- The names among the fields of a row, and where they are encoded.
use Rattle.std.specs.Prelude.{◌≡◌, ℕ, zero, suc, List, [], ◌∷◌}
use Rattle.dns_fields.specs.{declared.Kind.Kind, declared.Kind.TheVariants.Name, Fields.Values, Fields.Field}
use Rattle.dns_fields.specs.{Labels.DomainName, Names.IsNameIn}
use Rattle.dns_view.specs.declared.name.name_ref.NameRef.{NameRef}

-- how many of the fields are names
abbrev pub names_in : List Kind → ℕ
names_in [] = 0
names_in (Name ∷ kinds) = suc (names_in kinds)
names_in (k ∷ kinds) = names_in kinds

-- the index of a later name, counted from after this field
abbrev pub index_after : Kind → ℕ → ℕ
index_after Name (suc i) = i
index_after k i = i

-- Of the fields that follow each other from p on, the name of index i is encoded at q, and is x.
abbrev pub IsNameAt : List ℕ → ℕ → (kinds : List Kind) → Values kinds → ℕ → ℕ → DomainName → Type 0
IsNameAt m p [] vs i q x = ⊥
IsNameAt m p (Name ∷ kinds) vs zero q x = (q ≡ p) × (x ≡ vs.0)
IsNameAt m p (k ∷ kinds) vs i q x = (b : ℕ) × Field m p k vs.0 b × IsNameAt m b kinds vs.1 (index_after k i) q x

-- the name of index i among the fields from p on, at the offset where it is encoded
pub record ShowsNameAt (m : List ℕ) (p : ℕ) (kinds : List Kind) (vs : Values kinds) (i : ℕ) (r : NameRef) : Type 0 where
  pub message : r.message.now ≡ m
  pub name : DomainName
  pub at : IsNameAt m p kinds vs i r.offset name
  pub end : ℕ
  pub is : IsNameIn m r.offset name end
