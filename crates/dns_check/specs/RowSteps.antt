-- How many steps are taken by going over the fields of a row.
use Rattle.std.specs.Prelude.{◌≡◌, ℕ, ◌+◌, ◌<◌, ◌≤◌, ◌⊎◌, List, [], ◌∷◌, length}
use Rattle.dns_types.specs.declared.error.DecodeError.{DecodeError}
use Rattle.dns_fields.specs.declared.Kind.{Kind, TheVariants.Name}
use Rattle.dns_names_wire.specs.State.{Reading}
use Rattle.dns_rows.specs.declared.row.Part.{Part}
use Rattle.dns_names_wire.specs.Steps.{NameSteps, Leaves}
use Rattle.dns_check.specs.{Parts.Skipped, Parts.Refused, Rows.asked_length, Rows.TookRow}

-- those of a name; none in a field of another kind
abbrev pub FieldSteps : Kind → Reading → ℕ → Type 0
FieldSteps Name old count = NameSteps old.message old.index count
FieldSteps k old count = count ≡ 0

-- Those of the first field; and if the field is taken, those of the fields after it too. The fields have n octets of
-- RDATA from start.
abbrev pub FieldsSteps : List Part → ℕ → ℕ → Reading → ℕ → Type 0
FieldsSteps [] start n old count = count ≡ 0
FieldsSteps (p ∷ row) start n old count = (one : ℕ) × FieldSteps p.kind old one
    × (((new : Reading) × (rest : ℕ) × Skipped p.rule p.kind (start + n) old new × FieldsSteps row start n new rest
    × (count ≡ one + rest))
    ⊎ ((e : DecodeError) × (new : Reading) × Refused p.rule p.kind start n old e new × (count ≡ one)))

-- Those of a row's fields, of n octets of RDATA. If the row asks for more octets, no field is looked at.
abbrev pub RowSteps : List Part → ℕ → Reading → ℕ → Type 0
RowSteps row n old count = ((n < asked_length row) × (count ≡ 0))
    ⊎ ((asked_length row ≤ n) × FieldsSteps row old.index n old count)

-- fields of the row fill n octets from the offset, and this is what their steps leave of `before`
pub record NearRow (row : List Part) (n start : ℕ) (m : List ℕ) (before after : ℕ) : Type 0 where
  pub took : TookRow row n (record { message = m; index = start }) (record { message = m; index = start + n })
  pub inside : start + n ≤ length m
  pub steps : Leaves (RowSteps row n (record { message = m; index = start })) before after
