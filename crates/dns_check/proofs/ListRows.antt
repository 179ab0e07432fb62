-- Lists that are checked and counted in one pass.
use Rattle.std.proofs.Common.{◌≡◌, ℕ, ◌+◌, ◌-◌, ◌<◌, ◌≤◌, true, List, length, take, drop, refl, ap, ◌∙◌, arith, subst, Ok}
use Rattle.dns_types.specs.declared.error.DecodeError.{DecodeError}
use Rattle.dns_types.specs.declared.error.DecodeError.TheVariants as decode
use Rattle.dns_fields.specs.declared.Kind.TheVariants.{Number, Name, CharacterString, CharacterStrings, Parameters}
use Rattle.dns_fields.specs.{Octets.AreOctets, Fields.Field}
use Rattle.dns_fields.proofs.{FieldLaws.field_same, FieldLaws.field_end, Numbers.length-bytes}
use Rattle.dns_names_wire.specs.{State.Reading, Terms.LacksText, Terms.RefusedField, Terms.moved, NameEnds.NameEnds}
use Rattle.dns_rows.specs.declared.row.Part.{Part}
use Rattle.dns_rows.specs.declared.row.Rule.TheVariants as rules
use Rattle.dns_rows.specs.declared.row.TheConstants as rows
use Rattle.dns_check.specs.{Rows.is_row, Parts.Skips, ByRow.RowRejected, Lists.TookStrings, Lists.TookOptions, Lists.HasParameters, Lists.ParametersThere, Options.HasOptions, Tlvs.CompleteBy}
use Rattle.dns_check.proofs.{Alone.slice, OptionLists.options_fill, ParameterSteps.parameters_there, RowLoop.AtPart, RowLoop.at_first, RowLoop.at_next, RowLoop.at_last, RowLoop.part_refused}
use Rattle.dns_check.proofs.{RowTests.row_tested, Strings.On, Strings.Counted, Strings.strings_skip, Strings.strings_refused}
use Rattle.dns_check.proofs.{Skips.name_skips, Skips.number_skips, FieldEnds.octets_there}

-- any part, where a row is looked at beyond its end
some_part : Part
some_part = record { kind = Name; rule = rules.Free }

row_first : {row : List Part} {n : ℕ} {old : Reading} → is_row row ≡ true → AtPart row 0 n old old
row_first {row} {n} h = let checked = row_tested row h in at_first n checked.ordered checked.covered

pub start_of : {i : ℕ} {d old : Reading} → i ≡ d.index → d ≡ old → i ≡ old.index
start_of is same = is ∙ ap (λ (r : Reading). r.index) same

pub slice_same : {p q i j : ℕ} {m k : List ℕ} → p ≡ i → q ≡ j → m ≡ k → slice m p q ≡ slice k i j
slice_same from to message = λ x. slice (message x) (from x) (to x)

-- ---- strings

pub strings_took : {n count end : ℕ} {octets : List ℕ} {old d : Reading} → AreOctets old.message → n < 65536 → end ≡ old.index + n → Counted old end count d
    → end ≤ d.index → octets ≡ take (d.index - old.index) (drop old.index old.message) → TookStrings n old octets count d
strings_took {n} {count} {old = old} {d} are short there counted past same =
    let c : Counted old (old.index + n) count d = subst (λ (e : ℕ). Counted old e count d) there counted in
    let passed : old.index + n ≤ d.index = omega (arith, there, past) in
    let took = at_last {row = rows.TXT} (at_next {row = rows.TXT} {start = old.index} some_part (row_first refl) (omega arith) refl (strings_skip c.on passed)) (omega arith) in
    let s = took.fields.stands in
    let f : Field old.message old.index CharacterStrings took.fields.values.0 d.index =
    subst (λ (q : ℕ). Field old.message old.index CharacterStrings took.fields.values.0 q) s.2 s.1 in
    record {
      there = record { octets = are; short = short; took = took };
      slice = same;
      number = c.number ∙ ap length (field_same c.on.took f);
    }

pub strings_rejected : {n end : ℕ} {e : DecodeError} {old d b : Reading} → end ≡ old.index + n → On old end d → RefusedField e d CharacterString b
    → d.index < end → e ≡ decode.InsufficientBytes → LacksText d b → RowRejected rows.TXT n old
strings_rejected {n} {end} {e} {old} {d} {b} there on f lt why l =
    let o : On old (old.index + n) d = subst (λ (q : ℕ). On old q d) there on in
    let before : d.index < old.index + n = omega (arith, there, lt) in
    record {
      error = e;
      new = b;
      refused = part_refused {row = rows.TXT} {start = old.index} some_part (row_first refl) (omega arith) refl (omega arith)
          (strings_refused o f before why l);
    }

-- ---- options

pub options_took : {n count : ℕ} {old : Reading} → AreOctets old.message → n < 65536 → old.index + n ≤ length old.message
    → HasOptions (slice old.message old.index (old.index + n)) → CompleteBy (slice old.message old.index (old.index + n)) count
    → TookOptions n old (slice old.message old.index (old.index + n)) count (moved old (old.index + n))
options_took {n} {count} {old} are short inside h parts =
    let there = options_fill old.index n (omega arith) inside h in
    record {
      there = record {
        octets = are;
        short = short;
        took = at_last {row = rows.OPT} (at_next {row = rows.OPT} {start = old.index} some_part (row_first refl) (omega arith) refl (there _)) (omega arith);
      };
      slice = refl;
      parts = parts;
    }

-- ---- parameters

parameters_there_at : {n count at : ℕ} {old : Reading} → AreOctets old.message → n < 65536 → old.index + 2 ≤ length old.message
    → NameEnds old.message (old.index + 2) at → ParametersThere old.message at (old.index + n) count → HasParameters n old count
parameters_there_at {n} {count} {at} {old} are short inside name h =
    let number : Skips rules.Free (Number 2) old.index n (Ok tt) old (moved old (old.index + 2)) = number_skips (octets_there old 2 (old.index + 2) (refl, inside)) are tt in
    let target : Skips rules.Free Name old.index n (Ok tt) (moved old (old.index + 2)) (moved old at) = name_skips (record { value = name.name; took = record { message = refl; field = record { is = name.is } } }) in
    let first = at_next {row = rows.SVCB} {start = old.index} some_part (row_first refl) (omega arith) refl number in
    let second = at_next {row = rows.SVCB} {start = old.index} some_part first (omega arith) refl target in
    let took = at_last {row = rows.SVCB} (at_next {row = rows.SVCB} {start = old.index} some_part second (omega arith) refl (parameters_there h)) (omega arith) in
    let vs = took.fields.values in
    let s = took.fields.stands in
    let one : s.0 ≡ old.index + 2 = omega (arith, s.1.is.1.ends, length-bytes 2 vs.0) in
    let two : s.2.0 ≡ at = field_end {k = Name} tt (subst (λ (q : ℕ). Field old.message q Name vs.1.0 s.2.0) one s.2.1) (record { is = name.is }) in
    let f : Field old.message at Parameters vs.1.1.0 (old.index + n) =
    subst (λ (q : ℕ). Field old.message q Parameters vs.1.1.0 (old.index + n)) two
    (subst (λ (q : ℕ). Field old.message s.2.0 Parameters vs.1.1.0 q) s.2.2.2 s.2.2.1) in
    record { there = record { octets = are; short = short; took = took }; number = h.number ∙ ap length (field_same h.field f) }

-- the same by the numbers of a decoder
pub parameters_took : {n l count at start : ℕ} {m : List ℕ} {old : Reading} → AreOctets old.message → n < 65536 → start ≡ old.index → m ≡ old.message → l ≡ n
    → 2 ≤ length m - start → NameEnds m (start + 2) at → ParametersThere m at (start + l) count → HasParameters n old count
parameters_took {n} {l} {count} {at} {start} {m} {old} are short from message size room name h =
    let name' : NameEnds old.message (old.index + 2) at = subst (λ (p : ℕ). NameEnds old.message (p + 2) at) from
    (subst (λ (k : List ℕ). NameEnds k (start + 2) at) message name) in
    let h' : ParametersThere old.message at (old.index + n) count = subst (λ (q : ℕ). ParametersThere old.message at (old.index + q) count) size
    (subst (λ (p : ℕ). ParametersThere old.message at (p + l) count) from (subst (λ (k : List ℕ). ParametersThere k at (start + l) count) message h)) in
    parameters_there_at are short (omega (arith, room, from, ap length message)) name' h'
