-- The laws of RDATA of every type.
use Rattle.std.proofs.Common.{rules, ◌≡◌, ℕ, ◌+◌, ◌-◌, ◌<◌, ◌≤◌, Bool, true, List, [], ◌∷◌, length, refl, sym, ap, ◌∙◌, arith, subst, Result, Ok, Err}
use Rattle.std.specs.{Bool.Decides, Result.IfOk, Result.OnOk}
use Rattle.std.proofs.lemmas.List.{length-append}
use Rattle.dns_fields.specs.{declared.RDataEncoding.RDataEncoding, Octets.AreOctets, Equal.values_eq, Laws.IsShape}
use Rattle.dns_fields.specs.Fields.{Value, Values, AllFit, all_emittable, Stands, SameField, Same, Wrote, canonical}
use Rattle.dns_fields.specs.declared.Kind.{Kind, TheVariants.Number, TheVariants.CharacterString, TheVariants.Rest, TheVariants.Parameters}
use Rattle.dns_fields.proofs.{EqualLaws.values_decide, Emittable.all_fit_emittable, OctetLaws.canonical_octets_are}
use Rattle.dns_fields.proofs.Laws.{stands_same, stands_fit, stands_lawful, stands_full, wrote_stands, wrote_behind, wrote_all_fit, canonical_same}
use Rattle.dns_fields.proofs.Laws.{canonical_stands, canonical_injective}
use Rattle.dns_types.specs.{declared.error.DecodeError.DecodeError, declared.error.ProtoError.ProtoError, declared.record_type.RecordType.RecordType}
use Rattle.dns_types.specs.declared.record_type.RecordType.TheVariants as types
use Rattle.dns_names_wire.specs.{State.Writing, Terms.Region, Terms.Appended, Terms.EmitsAs}
use Rattle.dns_rows.specs.{declared.row.Part.Part, declared.row.Rule.Rule, Table.TypeRow, Table.fields, Table.unread, Table.formatless, Table.table}
use Rattle.dns_rows.specs.declared.row.Rule.TheVariants as asked
use Rattle.dns_rows.specs.{Table.kinds_of, Rules.AreLetters, Rules.IsTag, Rules.AreKnownFlags, Rules.HaveTexts, Rules.also, Rules.MeetsRow}
use Rattle.dns_rdata.specs.{declared.record_data.RData.RData, Equal.equal}
use Rattle.dns_rdata.specs.Data.{parts_of, MeetsRule, shape, MeetsCondition, FieldsOf, fields_of, Fills, IsEmittable, octets_of, data_octets}
use Rattle.dns_rdata.specs.Laws.{OneValue, EachRegion, HasEqual, TellsApart, ReadsCanonical, ReadsBack}
use Rattle.dns_rdata.proofs.Values.{values_as, values_as-same, value_for, value_is, region_value, fields_for, equal_values}

-- each field but the last says where it ends
shape_is : (t : RecordType) → IsShape (shape t)
shape_is types.CERT = search rules
shape_is t = search rules

-- what is asked of a field is asked of its equals
also_same : (rule : Rule) (k : Kind) (a b : Value k) {P Q : Type 0} → SameField k a b → (P → Q) → also rule k a P → also rule k b Q
also_same asked.Letters CharacterString a b s f h = (subst AreLetters s.is h.0, f h.1)
also_same asked.Tag CharacterString a b s f h = (subst IsTag s.is h.0, f h.1)
also_same asked.KnownFlags (Number w) a b s f h = (subst AreKnownFlags s.is h.0, f h.1)
also_same asked.Some Rest a b s f h = (λ e. h.0 (s.is ∙ e), f h.1)
also_same asked.Paths Parameters a b s f h = (subst HaveTexts s.is h.0, f h.1)
also_same rule k a b s f h = f h

row_same : (row : List Part) (a b : Values (kinds_of row)) → Same (kinds_of row) a b → MeetsRow row a → MeetsRow row b
row_same [] a b s h = tt
row_same (p ∷ row) a b s h = also_same p.rule p.kind a.0 b.0 s.0 (row_same row a.1 b.1 s.1) h

rule_same : (r : TypeRow) (a b : Values (kinds_of (parts_of r))) → Same (kinds_of (parts_of r)) a b → MeetsRule r a → MeetsRule r b
rule_same (fields parts) a b s h = row_same parts a b s h
rule_same unread a b s h = h
rule_same formatless a b s h = h

pub one_value : OneValue
one_value m p n t v w f g =
    let same : f.values ≡ g.values = stands_same m p (shape t) f.values g.values (p + n) (shape_is t) f.region.stands g.region.stands in
    value_is t f.values v f.value ∙ ap (value_for t) same ∙ sym (value_is t g.values w g.value)

pub each_region : EachRegion
each_region m p n t vs w = (value_for t vs, record { values = vs; region = w; value = region_value m p n t vs w })

-- ---- values of one type are equal where their fields are

fields_for-region : (m : List ℕ) (p n : ℕ) (t : RecordType) (vs : Values (shape t)) → Region m p n (shape t) (MeetsCondition t) vs → fields_for t vs ≡ vs
fields_for-region m p n t vs w = ap (λ (f : FieldsOf). values_as (shape t) f.kinds f.values) (region_value m p n t vs w).fields ∙ values_as-same (shape t) vs

-- the test of two values that fill windows of one type
equal_same : (t : RecordType) (v w : RData) (m : List ℕ) (p n : ℕ) (m' : List ℕ) (p' n' : ℕ) (f : Fills m p n t v) (g : Fills m' p' n' t w)
    → Decides (equal v w) (Same (shape t) f.values g.values)
equal_same t v w m p n m' p' n' f g =
    let a : equal v w ≡ equal (value_for t f.values) (value_for t g.values) = ap (λ (x : RData). equal x w) (value_is t f.values v f.value)
    ∙ ap (equal (value_for t f.values)) (value_is t g.values w g.value) in
    let b = equal_values t f.values g.values f.region.holds (region_value m p n t f.values f.region).can_be_read (region_value m' p' n' t g.values g.region).can_be_read in
    let c : values_eq (shape t) (fields_for t f.values) (fields_for t g.values) ≡ values_eq (shape t) f.values g.values =
    ap (λ (x : Values (shape t)). values_eq (shape t) x (fields_for t g.values)) (fields_for-region m p n t f.values f.region)
    ∙ ap (values_eq (shape t) f.values) (fields_for-region m' p' n' t g.values g.region) in
    let d = values_decide (shape t) f.values g.values (stands_full m p (shape t) f.values (p + n) f.region.stands)
    (stands_full m' p' (shape t) g.values (p' + n') g.region.stands) in
    subst (λ (x : Bool). Decides x (Same (shape t) f.values g.values)) (sym (a ∙ b ∙ c)) d

octets_fit : (kinds : List Kind) (vs : Values kinds) → AllFit kinds vs → octets_of (record { kinds = kinds; values = vs }) ≡ canonical kinds vs
octets_fit kinds vs h = rw (all_fit_emittable kinds vs h) refl

pub filled_octets : {m : List ℕ} {p n : ℕ} {t : RecordType} {v : RData} (f : Fills m p n t v) → data_octets v ≡ canonical (shape t) f.values
filled_octets {m} {p} {n} {t} f = ap octets_of f.value.fields ∙ octets_fit (shape t) f.values (stands_fit m p (shape t) f.values (p + n) f.region.stands)

pub fills_emittable : {m : List ℕ} {p n : ℕ} {t : RecordType} {v : RData} → Fills m p n t v → IsEmittable v
fills_emittable {m} {p} {n} {t} f = subst (λ (x : FieldsOf). all_emittable x.kinds x.values ≡ true) (sym f.value.fields)
    (all_fit_emittable (shape t) f.values (stands_fit m p (shape t) f.values (p + n) f.region.stands))

pub tells_apart : (v w : RData) → TellsApart v w (equal v w)
tells_apart v w t m p n m' p' n' f g =
    let d = equal_same t v w m p n m' p' n' f g in
    let ev : data_octets v ≡ canonical (shape t) f.values = filled_octets f in
    let ew : data_octets w ≡ canonical (shape t) g.values = filled_octets g in
    let fs = f.region.stands in
    let gs = g.region.stands in (
      λ h. ev ∙ canonical_same (shape t) f.values g.values (d.0 h) ∙ sym ew,
      λ e. d.1 (canonical_injective (shape t) f.values g.values (shape_is t) (stands_fit m p (shape t) f.values (p + n) fs)
          (stands_lawful m p (shape t) f.values (p + n) fs) (stands_fit m' p' (shape t) g.values (p' + n') gs)
          (stands_lawful m' p' (shape t) g.values (p' + n') gs) (sym ev ∙ e ∙ ew)),
    )

-- ---- equal fields that are encoded elsewhere are of an equal value

equal_region : (m : List ℕ) (p n : ℕ) (t : RecordType) (v : RData) (m' : List ℕ) (p' n' : ℕ) (f : Fills m p n t v) (ws : Values (shape t)) → AreOctets m'
    → n' < 65536 → p' + n' ≤ length m' → Stands m' p' (shape t) ws (p' + n') → Same (shape t) f.values ws → HasEqual m' p' n' t v
equal_region m p n t v m' p' n' f ws octets short within stands same =
    let w : Region m' p' n' (shape t) (MeetsCondition t) ws =
    record { octets = octets; short = short; within = within; stands = stands; holds = rule_same (table t) f.values ws same f.region.holds } in
    let g : Fills m' p' n' t (value_for t ws) = record { values = ws; region = w; value = region_value m' p' n' t ws w } in
    record { value = value_for t ws; fills = g; same = (equal_same t v (value_for t ws) m p n m' p' n' f g).1 same }

pub reads_back : (v : RData) (mode : RDataEncoding) (old new : Writing) → AreOctets new.octets
    → Appended mode old (fields_of v).kinds (fields_of v).values new → ReadsBack v old new
reads_back v mode old new octets a t m p n f short =
    let w : Wrote mode old.octets (shape t) f.values new.octets = subst (λ (x : FieldsOf). Wrote mode old.octets x.kinds x.values new.octets) f.value.fields
    a.fields in
    let b = wrote_stands mode old.octets (shape t) f.values new.octets (stands_lawful m p (shape t) f.values (p + n) f.region.stands) w in
    let x = wrote_behind mode old.octets (shape t) f.values new.octets w in
    let e : length old.octets + (length new.octets - length old.octets) ≡ length new.octets = omega (arith, ap length x.1, length-append old.octets x.0) in
    equal_region m p n t v new.octets (length old.octets) (length new.octets - length old.octets) f b.0 octets short (omega arith) (rw e b.2) b.1

pub reads_canonical : (m : List ℕ) (p n : ℕ) (t : RecordType) (v : RData) → Fills m p n t v → ReadsCanonical t v
reads_canonical m p n t v f short =
    let fit = stands_fit m p (shape t) f.values (p + n) f.region.stands in
    let lawful = stands_lawful m p (shape t) f.values (p + n) f.region.stands in
    let b = canonical_stands (shape t) f.values fit lawful in
    let e : canonical (shape t) f.values ≡ data_octets v = sym (filled_octets f) in
    let whole : Stands (data_octets v) 0 (shape t) b.0 (length (data_octets v)) = subst (λ (x : List ℕ). Stands x 0 (shape t) b.0 (length x)) e b.2 in
    let z : length (data_octets v) ≡ 0 + length (data_octets v) = omega arith in
    let octets : AreOctets (data_octets v) = subst AreOctets e (canonical_octets_are m p (shape t) f.values (p + n) f.region.octets f.region.stands) in
    equal_region m p n t v (data_octets v) 0 (length (data_octets v)) f b.0 octets short (omega arith)
    (subst (λ (k : ℕ). Stands (data_octets v) 0 (shape t) b.0 k) z whole) b.1

-- ---- the same as clauses on an outcome

pub emits_again : (v : RData) (mode : RDataEncoding) (r : Result (Unit {0}) ProtoError) (old new : Writing) → AreOctets new.octets
    → EmitsAs mode (fields_of v).kinds (fields_of v).values r old new → OnOk r (ReadsBack v old new)
emits_again v mode (Ok x) old new octets h = reads_back v mode old new octets h
emits_again v mode (Err e) old new octets h = tt

-- what was emitted is emittable, and after the error `Message` it is not
pub emits_emittable : (v : RData) (mode : RDataEncoding) (r : Result (Unit {0}) ProtoError) (old new : Writing)
    → EmitsAs mode (fields_of v).kinds (fields_of v).values r old new → OnOk r (IsEmittable v)
emits_emittable v mode (Ok x) old new h =
    all_fit_emittable (fields_of v).kinds (fields_of v).values (wrote_all_fit mode old.octets (fields_of v).kinds (fields_of v).values new.octets h.fields)
emits_emittable v mode (Err e) old new h = tt
