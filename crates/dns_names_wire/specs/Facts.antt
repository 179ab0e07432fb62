-- What RDATA of a type is: the fields, which the contracts of reading, emitting and comparing name.
use Rattle.std.specs.Prelude.{ℕ, ◌≡◌, ◌+◌, Bool, List, Result}
use Rattle.std.specs.{Ordering.on, declared.cmp.Ordering.Ordering}
use Rattle.std.specs.Cmp.{IsEquivalence, IsPartialEquivalence, on_equiv, partial_equiv_from_equiv}
use Rattle.dns_types.specs.{declared.error.ProtoError.ProtoError}
use Rattle.dns_fields.specs.{declared.RDataEncoding.RDataEncoding, Equal.values_eq, declared.Kind.Kind, Fields.Values}
use Rattle.dns_fields.specs.{Fields.Stands, Order.values_cmp}
use Rattle.dns_fields.proofs.Equivalences.{values_equiv}
use Rattle.dns_rows.specs.{declared.row.Part.Part, Table.kinds_of, Rules.MeetsRow}
use Rattle.dns_names_wire.specs.{State.Reading, State.Writing, Terms.EmitsAs}

-- the row of the type and the fields of a value, what is true of a value that was read from so many octets, and of where
-- the decoder is afterwards, and the order of two values
pub record Facts (T : Type 0) : Type 1 where
  pub row : List Part
  pub fields : T → Values (kinds_of row)
  pub after_read : ℕ → T → Reading → Reading → Type 0
  pub order : T → T → Ordering

-- ordered by the fields, and nothing more is true of a value that was read
abbrev pub plain : {T : Type 0} (row : List Part) → (T → Values (kinds_of row)) → Facts T
plain row fields = record {
  row = row;
  fields = fields;
  after_read = λ n x old new. Unit {0};
  order = on fields (values_cmp (kinds_of row));
}

-- the same, of fields that fill the length
abbrev pub filling : {T : Type 0} (row : List Part) → (T → Values (kinds_of row)) → (T → Type 0) → Facts T
filling row fields IsRead = record {
  row = row;
  fields = fields;
  after_read = λ n x old new. IsRead x × (new.index ≡ old.index + n);
  order = on fields (values_cmp (kinds_of row));
}

-- the fields of the value are there, each as its rule asks
abbrev pub RecordStands : {T : Type 0} → Facts T → List ℕ → ℕ → T → ℕ → Type 0
RecordStands f m p x q = Stands m p (kinds_of f.row) (f.fields x) q × MeetsRow f.row (f.fields x)

-- the fields of the value are emitted, the names in this mode
abbrev pub RecordEmits : {T : Type 0} → RDataEncoding → Facts T → T → Result (Unit {0}) ProtoError → Writing → Writing
    → Type 0
RecordEmits mode f x r old new = EmitsAs mode (kinds_of f.row) (f.fields x) r old new

-- values are compared by their fields
abbrev pub same : {T : Type 0} (kinds : List Kind) → (T → Values kinds) → T → T → Bool
same kinds fields a b = values_eq kinds (fields a) (fields b)

pub same_equiv : {T : Type 0} (kinds : List Kind) (fields : T → Values kinds) → IsEquivalence (same kinds fields)
same_equiv kinds fields = on_equiv fields (values_equiv kinds)

pub same_partial : {T : Type 0} (kinds : List Kind) (fields : T → Values kinds)
    → IsPartialEquivalence (same kinds fields)
same_partial kinds fields = partial_equiv_from_equiv (same_equiv kinds fields)
