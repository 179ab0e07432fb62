-- Where the fields of a row end, one by one.
use Rattle.std.proofs.Common.{◌≡◌, ℕ, ◌<◌, List, ◌∷◌, arith, subst, sym}
use Rattle.dns_fields.specs.declared.Kind.{Kind}
use Rattle.dns_fields.specs.declared.Kind.TheVariants.{Name}
use Rattle.dns_fields.specs.Fields.{Value, Field, Stands}
use Rattle.dns_fields.proofs.FieldLaws.{field_end}
use Rattle.dns_rows.specs.{declared.row.Part.Part, Table.kinds_of, Rules.MeetsRow}
use Rattle.dns_names_wire.specs.NameEnds.{NameEnds}
use Rattle.dns_check.specs.{Parts.Reaches, Rows.IsRow, Rows.HasRow}
use Rattle.dns_check.proofs.{Asked.asks_split, RowLoop.field_reaches}

-- however the field is read, it ends at this offset
abbrev pub Stops : List ℕ → ℕ → (k : Kind) → ℕ → ℕ → Type 0
Stops m p k e next = (v : Value k) (q : ℕ) → Field m p k v q → Reaches k e q → q ≡ next

-- no field is there
abbrev pub NoneStops : List ℕ → ℕ → (k : Kind) → ℕ → Type 0
NoneStops m p k e = (v : Value k) (q : ℕ) → Field m p k v q → Reaches k e q → ⊥

pub name_stops : {m : List ℕ} {p : ℕ} {k : Kind} (e : ℕ) {next : ℕ} → k ≡ Name → NameEnds m p next → Stops m p k e next
name_stops {m} {p} {k} e {next} kind n = subst (λ (x : Kind). Stops m p x e next) (sym kind)
    (λ v q f r. field_end {k = Name} tt f (record { is = n.is }))

-- a name that ends after the RDATA
pub name_past : {m : List ℕ} {p : ℕ} {k : Kind} (e : ℕ) {next : ℕ} → k ≡ Name → NameEnds m p next → e < next → NoneStops m p k e
name_past {m} {p} {k} e {next} kind n past = subst (λ (x : Kind). NoneStops m p x e) (sym kind)
    (λ v q f r. omega (arith, past, r, field_end {k = Name} tt f (record { is = n.is })))

-- ---- the fields after one

module _ (m : List ℕ) (p e next : ℕ) (part : Part) (left : List Part) (ordered : IsRow (part ∷ left)) (h : HasRow m p (part ∷ left) e)
    (stops : Stops m p part.kind e next) where
  pub next_there : h.stands.0 ≡ next
  next_there = stops h.values.0 h.stands.0 h.stands.1 (field_reaches m part left h.stands.0 e h.values.1 ordered h.stands.2)

  abbrev pub behind_next : HasRow m next left e
  behind_next = record {
    values = h.values.1;
    stands = subst (λ (i : ℕ). Stands m i (kinds_of left) h.values.1 e) next_there h.stands.2;
    meets = (asks_split part.rule part.kind h.values.0 (MeetsRow left h.values.1) h.meets).1;
  }

  pub this_field : Field m p part.kind h.values.0 next
  this_field = subst (λ (i : ℕ). Field m p part.kind h.values.0 i) next_there h.stands.1
