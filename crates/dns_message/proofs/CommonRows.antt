-- RDATA of the commonest types is there: so many octets, a name, or a number and a name.
use Rattle.std.proofs.Common.{◌≡◌, ℕ, ◌+◌, ◌≤◌, ◌<◌, ◌⊎◌, inr, inl, List, [], ◌∷◌, length, length-drop, take, drop, refl, ap, arith}
use Rattle.std.proofs.lemmas.List.{length-take-le}
use Rattle.dns_types.specs.declared.record_type.RecordType.{RecordType}
use Rattle.dns_types.specs.declared.record_type.RecordType.TheVariants as types
use Rattle.dns_types.specs.RecordTypes.{record_type_of}
use Rattle.dns_fields.specs.{Octets.AreOctets}
use Rattle.dns_fields.specs.declared.Kind.TheVariants.{Number, Octets, Name}
use Rattle.dns_names_wire.specs.{State.Reading, Terms.TookField}
use Rattle.dns_rows.specs.declared.row.{Part.Part}
use Rattle.dns_rows.specs.declared.row.Rule.TheVariants as rules
use Rattle.dns_rows.specs.{Table.table, Written.asked, Written.free}
use Rattle.dns_names_wire.specs.{NameEnds.NameEnds, Steps.NameSteps, Steps.Leaves, Terms.TookSome}
use Rattle.dns_check.specs.{Checks.FillsRow, RowSteps.RowSteps}
use Rattle.dns_check.proofs.Skips.{number_taken, skipped_itself}
use Rattle.dns_rdata.specs.Data.{parts_of, IsNeverRead}
use Rattle.dns_rdata.proofs.Views.{row_value_is}
use Rattle.dns_message.specs.declared.reading.FixedFields.{FixedFields}
use Rattle.dns_message.specs.{Records.HasNoData, Passing.PassesRData}
use Rattle.dns_message.proofs.Fields.{name_field}

-- the n octets from p are the row's fields, and their steps are taken off
pub record RowThere (m : List ℕ) (p n : ℕ) (row : List Part) (left after : ℕ) : Type 0 where
  pub fills : FillsRow m p n row
  pub steps : Leaves (RowSteps row n (record { message = m; index = p })) left after

-- so many octets are taken
taken : {m : List ℕ} {p n : ℕ} → p + n ≤ length m → TookField (record { message = m; index = p }) (Octets n) (take n (drop p m)) (record { message = m; index = p + n })
taken {m} {p} {n} within =
    let s = drop p m in
    let size : length (take n s) ≡ n = length-take-le n s (omega (arith, within, length-drop p m)) in
    record {
      message = refl;
      field = record {
        is = (size, record { ends = omega (arith, size); within = within; same = ap (λ (k : ℕ). take k s) size });
      };
    }

pub octets_there : {m : List ℕ} {p n : ℕ} (step left : ℕ) → AreOctets m → n < 65536 → p + n ≤ length m
    → RowThere m p n (asked (rules.Steps step) (Octets n) ∷ []) left left
octets_there {m} {p} {n} step left octets short within =
    let t = taken within in
    record {
      fills = record {
        octets = octets;
        short = short;
        within = within;
        has = record { values = (take n (drop p m), tt); stands = (p + n, t.field, refl); meets = tt };
      };
      steps = (
        0,
        inr (omega arith, (0, refl, inl (record { message = m; index = p + n }, 0, skipped_itself tt t tt tt, refl, refl))),
        omega arith,
      );
    }

-- a name is taken
name_taken : {m : List ℕ} {p e : ℕ} (n : NameEnds m p e) → TookField (record { message = m; index = p }) Name n.name (record { message = m; index = e })
name_taken n = record { message = refl; field = name_field n }

pub name_there : {m : List ℕ} {p n left after : ℕ} → AreOctets m → n < 65536 → p + n ≤ length m → NameEnds m p (p + n)
    → Leaves (NameSteps m p) left after → RowThere m p n (free Name ∷ []) left after
name_there {m} {p} {n} octets short within name l = record {
  fills = record {
    octets = octets;
    short = short;
    within = within;
    has = record { values = (name.name, tt); stands = (p + n, name_field name, refl); meets = tt };
  };
  steps = (
    l.0,
    inr (
      omega arith,
      (l.0, l.1, inl (record { message = m; index = p + n }, 0, skipped_itself tt (name_taken name) tt tt, refl, omega arith)),
    ),
    l.2,
  );
}

-- a number of two octets, and a name
pub pair_there : {m : List ℕ} {p n left after : ℕ} → AreOctets m → 2 ≤ n → n < 65536 → p + n ≤ length m → NameEnds m (p + 2) (p + n)
    → Leaves (NameSteps m (p + 2)) left after → RowThere m p n (free (Number 2) ∷ free Name ∷ []) left after
pair_there {m} {p} {n} octets some short within name l =
    let old : Reading = record { message = m; index = p } in
    let between : Reading = record { message = m; index = p + 2 } in
    let number : TookSome old (Number 2) between = number_taken octets (taken (omega (arith, some, within))) in
    record {
      fills = record {
        octets = octets;
        short = short;
        within = within;
        has = record {
          values = (number.value, (name.name, tt));
          stands = (p + 2, number.took.field, (p + n, name_field name, refl));
          meets = tt;
        };
      };
      steps = (
        l.0,
        inr (
          omega arith,
          (
            0,
            refl,
            inl (
              between,
              l.0,
              skipped_itself tt number.took tt tt,
              (l.0, l.1, inl (record { message = m; index = p + n }, 0, skipped_itself tt (name_taken name) tt tt, refl, omega arith)),
              omega arith,
            ),
          ),
        ),
        l.2,
      );
    }

-- ---- of a record

pub content_there : {m : List ℕ} {f : FixedFields} {left after : ℕ} (t : RecordType) → record_type_of f.record_type ≡ t → (IsNeverRead t → ⊥)
    → 0 < f.rdlength → RowThere m f.rdata f.rdlength (parts_of (table t)) left after → PassesRData m f left after
content_there {m} {f} {left} {after} t is read some there =
    let has : HasNoData f.record_type f.class f.rdlength → ⊥ = λ none. omega (arith, none.empty, some) in
    record {
      told = (has, rw is (row_value_is m f.rdata f.rdlength t read there.fills));
      steps = (there.steps.0, inr (has, rw is there.steps.1), there.steps.2);
    }

-- a type that is a name alone
abbrev pub of_name : ℕ → Type 0
of_name n = (n ≡ 2) ⊎ (n ≡ 5) ⊎ (n ≡ 12)

pub name_content : {m : List ℕ} {f : FixedFields} {left after : ℕ} → of_name f.record_type → AreOctets m → f.rdlength < 65536
    → f.rdata + f.rdlength ≤ length m → 0 < f.rdlength → NameEnds m f.rdata (f.rdata + f.rdlength) → Leaves (NameSteps m f.rdata) left after
    → PassesRData m f left after
name_content (inl is) octets short within some name l =
    content_there types.NS (ap record_type_of is) (λ never. never) some (name_there octets short within name l)
name_content (inr (inl is)) octets short within some name l =
    content_there types.CNAME (ap record_type_of is) (λ never. never) some (name_there octets short within name l)
name_content (inr (inr is)) octets short within some name l =
    content_there types.PTR (ap record_type_of is) (λ never. never) some (name_there octets short within name l)
