-- RDATA that is looked at is the RDATA of a value.
use Rattle.std.proofs.Common.{◌≡◌, ◌≢◌, ℕ, ◌+◌, ◌<◌, ◌≤◌, true, false, List, [], ◌∷◌, ◌++◌, length, Result, Ok, Err, ⊎_elim, refl, sym, ap, ◌∙◌, arith, subst}
use Rattle.std.specs.{Result.IfOk, Result.IfErr, Result.OnOk, Cmp.Lexicographic.slice_cmp, Ordering.nat_cmp, Ordering.is_eq, declared.cmp.Ordering.Ordering}
use Rattle.dns_types.specs.{declared.error.DecodeError.DecodeError, declared.record_type.RecordType.RecordType}
use Rattle.dns_types.specs.declared.error.DecodeError.TheVariants as decode
use Rattle.dns_types.specs.declared.record_type.RecordType.TheVariants as types
use Rattle.dns_fields.specs.Fields.{Value, Values, canonical}
use Rattle.dns_fields.specs.declared.Kind.{Kind}
use Rattle.dns_fields.specs.declared.Kind.TheVariants.{Octets, Name}
use Rattle.dns_names_wire.specs.{State.Reading, Terms.TookField, Terms.LacksOctets, Terms.StaysBehind}
use Rattle.dns_rows.specs.{declared.row.Part.Part, Rules.MeetsRow}
use Rattle.dns_rows.specs.Table.{TypeRow, fields as row, unread, formatless, table, kinds_of}
use Rattle.dns_check.specs.{Checks.FillsRow, Checks.NoFill, Checks.IsRowError, Rows.SkipsRow, Rows.is_row}
use Rattle.dns_view.specs.ViewOf as row_view
use Rattle.dns_view.specs.declared.row.view.RowView.{RowView}
use Rattle.dns_rdata.specs.Views.{IsViewOf}
use Rattle.dns_rdata.specs.{Data.data_octets, Data.type_of, Equal.equal, Equal.types_equal, Keys.variant_keys, Order.rdata_cmp, Ties.rdata_ties}
use Rattle.dns_rdata.proofs.OrderReads.{orders_read}
use Rattle.dns_types.proofs.RecordTypeLaws.{code_of-Decides}
use Rattle.std.proofs.lemmas.Bool.{cases_Bool}
use Rattle.dns_view.specs.Putting.{form_octets, all_form}
use Rattle.dns_check.specs.Rows.{HasRow}
use Rattle.dns_rdata.specs.WholeOctets.{whole_octets, all_whole, whole_data}
use Rattle.dns_rdata.specs.{declared.record_data.RData.RData, declared.view.RDataRef.RDataRef}
use Rattle.dns_rdata.specs.Data.{parts_of, MeetsRule, IsNever, IsNeverRead, HasValue, NoValue, FieldsOf, Fills, shape}
use Rattle.dns_rdata.specs.ReadErrors.{OwnResult, IsReadError}
use Rattle.dns_fields.specs.Octets.{AreOctets}
use Rattle.dns_rdata.proofs.DataLaws.{each_region, filled_octets}
use Rattle.dns_check.proofs.RowErrors.{Known, error_known, row_known}

-- ---- the row of a type

pub rows_checked : (t : RecordType) → is_row (parts_of (table t)) ≡ true
rows_checked types.A = refl
rows_checked t = refl

meets_rule : (r : TypeRow) (vs : Values (kinds_of (parts_of r))) → (IsNever r → ⊥) → MeetsRow (parts_of r) vs → MeetsRule r vs
meets_rule (row parts) vs read h = h
meets_rule unread vs read h = absurd (read tt)
meets_rule formatless vs read h = tt

pub meets_row : (r : TypeRow) (vs : Values (kinds_of (parts_of r))) → MeetsRule r vs → MeetsRow (parts_of r) vs
meets_row (row parts) vs h = h
meets_row unread vs h = absurd h
meets_row formatless vs h = tt

-- ---- what reading returns

abbrev pub RowGives : RecordType → ℕ → Result (Unit {0}) DecodeError → Reading → Reading → Type 0
RowGives t n own old new = SkipsRow (parts_of (table t)) n own old new

-- the row's own result is that of the type
pub row_own : (t : RecordType) (n : ℕ) (old new : Reading) (own : Result (Unit {0}) DecodeError) → (IsNeverRead t → ⊥) → RowGives t n own old new
    → OwnResult t n old new own
row_own t n old new (Ok x) read s = (read, s)
row_own t n old new (Err (decode.UnknownRecordTypeValue k)) read s =
    absurd ((row_known (parts_of (table t)) n old (decode.UnknownRecordTypeValue k) new s.error).1 k refl)
row_own t n old new (Err e) read s = (read, s)

error_read : (t : RecordType) (n : ℕ) (old new : Reading) (e : DecodeError) → (IsNeverRead t → ⊥) → IsRowError (parts_of (table t)) n old e new → Known e
    → IsReadError t n old new e
error_read t n old new decode.Memory read h k = absurd (k.0 refl)
error_read t n old new (decode.UnknownRecordTypeValue j) read h k = absurd (k.1 j refl)
error_read t n old new e read h k = (read, h)

-- the row's error is that of the type
pub row_why : (t : RecordType) (n : ℕ) (old new : Reading) (e : DecodeError) → (IsNeverRead t → ⊥) → IsRowError (parts_of (table t)) n old e new
    → IsReadError t n old new e × (e ≢ decode.Memory)
row_why t n old new e read h = let k = error_known (parts_of (table t)) n old e new h in (error_read t n old new e read h k, k.0)

pub row_none : (m : List ℕ) (p n : ℕ) (t : RecordType) → NoFill m p n (parts_of (table t)) → NoValue m p n t
row_none m p n t w = record {
  none = λ v f. w.none (record {
    octets = f.region.octets;
    short = f.region.short;
    within = f.region.within;
    has = record { values = f.values; stands = f.region.stands; meets = meets_row (table t) f.values f.region.holds };
  });
}

pub row_value_is : (m : List ℕ) (p n : ℕ) (t : RecordType) → (IsNeverRead t → ⊥) → FillsRow m p n (parts_of (table t)) → HasValue m p n t
row_value_is m p n t read f =
    let v = each_region m p n t f.has.values (record {
      octets = f.octets;
      short = f.short;
      within = f.within;
      stands = f.has.stands;
      holds = meets_rule (table t) f.has.values read f.has.meets;
    }) in
    record { value = v.0; fills = v.1 }

-- ---- the same for a walk that begins where the decoder is

reading_is : {a b : Reading} → a.message ≡ b.message → a.index ≡ b.index → a ≡ b
reading_is {a} {b} m i = ap (λ (x : List ℕ). record { message = x; index = a.index }) m ∙ ap (λ (y : ℕ). record { message = b.message; index = y }) i

pub starts_at : {d old : Reading} {m : List ℕ} {i : ℕ} → d ≡ record { message = m; index = i } → m ≡ old.message → i ≡ old.index → d ≡ old
starts_at {d} {old} {m} {i} is same at = is ∙ reading_is {a = record { message = m; index = i }} {b = old} same at

-- the decoder is moved to where the walk is
pub moved : {X : Type 0} (r : Result X DecodeError) (octets : X → List ℕ) (k : ℕ) (d walk new : Reading) → walk.message ≡ d.message → walk.index ≡ d.index + k
    → walk.index ≤ length walk.message → IfOk r (λ x. TookField d (Octets k) (octets x) new)
    → IfErr r (λ e. (e ≡ decode.InsufficientBytes) × LacksOctets d k) → new ≡ walk
moved (Ok x) octets k d walk new same at inside took lacks =
    reading_is (took.message ∙ sym same) (omega (arith, took.field.is.0, took.field.is.1.ends, at))
moved (Err e) octets k d walk new same at inside took lacks = absurd (omega (arith, lacks.1, at, inside, ap length same))

filled_as : {m l : List ℕ} {p q n k : ℕ} {parts others : List Part} → m ≡ l → p ≡ q → n ≡ k → parts ≡ others → FillsRow m p n parts → FillsRow l q k others
filled_as {m} {l} {p} {q} {n} {k} {parts} {others} a b c d f =
    subst (λ (x : List ℕ). FillsRow x q k others) a
    (subst (λ (x : ℕ). FillsRow m x k others) b (subst (λ (x : ℕ). FillsRow m p x others) c (subst (λ (x : List Part). FillsRow m p n x) d f)))

-- the row of a view is that of its type
pub view_row : {t : RecordType} {parts : List Part} {d : Reading} {n : ℕ} {r : RowView} → parts ≡ parts_of (table t) → row_view.IsViewOf d n parts r × (r.record_type ≡ t)
    → ∥ r.row.now ≡ parts_of (table r.record_type) ∥₁
view_row is v = ∣ v.0.row ∙ is ∙ ap (λ (x : RecordType). parts_of (table x)) (sym v.1) ∣₁

pub view_found : (t : RecordType) (n : ℕ) (old d : Reading) (parts : List Part) (r : RowView) {typed : ∥ r.row.now ≡ parts_of (table r.record_type) ∥₁} → d ≡ old
    → parts ≡ parts_of (table t) → (IsNeverRead t → ⊥) → row_view.IsViewOf d n parts r × (r.record_type ≡ t)
    → IsViewOf old.message old.index n t (record { view = r; row = typed })
view_found t n old d parts r same is read v =
    let w : row_view.IsViewOf old n (parts_of (table t)) r =
    subst (λ (x : List Part). row_view.IsViewOf old n x r) is (subst (λ (x : Reading). row_view.IsViewOf x n parts r) same v.0) in
    record {
      type = v.1;
      view = record { message = w.message; offset = w.offset; len = w.len; row = w.row; fills = w.fills };
      filled = row_value_is old.message old.index n t read (filled_as w.message w.offset w.len w.row w.fills);
    }

pub view_none : (t : RecordType) (n : ℕ) (old d : Reading) (parts : List Part) → d ≡ old → parts ≡ parts_of (table t) → NoFill d.message d.index n parts
    → NoValue old.message old.index n t
view_none t n old d parts same is w = row_none old.message old.index n t
    (subst (λ (x : List Part). NoFill old.message old.index n x) is (subst (λ (x : Reading). NoFill x.message x.index n parts) same w))

pub view_why : (t : RecordType) (n : ℕ) (old d walk new : Reading) (e : DecodeError) (parts : List Part) → d ≡ old → parts ≡ parts_of (table t)
    → (IsNeverRead t → ⊥) → new ≡ walk → IsRowError parts n d e walk → IsReadError t n old new e × (e ≢ decode.Memory)
view_why t n old d walk new e parts same is read at w = row_why t n old new e read
    (subst (λ (x : Reading). IsRowError (parts_of (table t)) n old e x) (sym at)
    (subst (λ (x : List Part). IsRowError x n old e walk) is (subst (λ (x : Reading). IsRowError parts n x e walk) same w)))

-- ---- the record's own result

-- where the walk is
pub walked : (parts : List Part) (n : ℕ) (own : Result (Unit {0}) DecodeError) (old new : Reading) → SkipsRow parts n own old new → StaysBehind old new
walked parts n (Ok x) old new s = s.behind
walked parts n (Err e) old new s = s.behind

-- the same walk, by the decoder
pub row_as : (t : RecordType) (n : ℕ) (own : Result (Unit {0}) DecodeError) (parts : List Part) (old d walk new : Reading) → d ≡ old → parts ≡ parts_of (table t)
    → new ≡ walk → SkipsRow parts n own d walk → RowGives t n own old new
row_as t n own parts old d walk new same is at s =
    subst (λ (x : Reading). SkipsRow (parts_of (table t)) n own old x) (sym at)
    (subst (λ (x : List Part). SkipsRow x n own old walk) is (subst (λ (x : Reading). SkipsRow parts n own x walk) same s))

pub row_whole : (t : RecordType) (n : ℕ) (old new : Reading) (own : Result (Unit {0}) DecodeError) → (IsNeverRead t → ⊥) → AreOctets old.message → n < 65536
    → new.index ≤ length old.message → RowGives t n own old new → OnOk own (new.index ≡ old.index + n → HasValue old.message old.index n t)
row_whole t n old new (Ok x) read octets short within s = λ here. row_value_is old.message old.index n t read
    (record { octets = octets; short = short; within = omega (arith, within, here); has = s.here here })
row_whole t n old new (Err e) read octets short within s = tt

pub row_elsewhere : (t : RecordType) (n : ℕ) (old new : Reading) (own : Result (Unit {0}) DecodeError) → RowGives t n own old new
    → OnOk own (new.index ≢ old.index + n → NoValue old.message old.index n t)
row_elsewhere t n old new (Ok x) s = λ there. row_none old.message old.index n t (record { none = λ f. (s.elsewhere there).none f.has })
row_elsewhere t n old new (Err e) s = tt

pub row_refused : (t : RecordType) (n : ℕ) (old new : Reading) (own : Result (Unit {0}) DecodeError) → RowGives t n own old new
    → IfErr own (λ e. NoValue old.message old.index n t)
row_refused t n old new (Ok x) s = tt
row_refused t n old new (Err e) s = row_none old.message old.index n t (record { none = λ f. s.none.none f.has })

pub row_no_memory : (t : RecordType) (n : ℕ) (old new : Reading) (own : Result (Unit {0}) DecodeError) → RowGives t n own old new → IfErr own (λ e. e ≢ decode.Memory)
row_no_memory t n old new (Ok x) s = tt
row_no_memory t n old new (Err e) s = (row_known (parts_of (table t)) n old e new s.error).0

-- ---- octets that are written

form_whole : (k : Kind) (v : Value k) → form_octets false k v ≡ whole_octets k v
form_whole Name v = refl
form_whole k v = refl

forms_whole : (kinds : List Kind) (vs : Values kinds) → all_form false kinds vs ≡ all_whole kinds vs
forms_whole [] vs = refl
forms_whole (k ∷ kinds) vs =
    ap (λ (o : List ℕ). o ++ all_form false kinds vs.1) (form_whole k vs.0) ∙ ap (λ (o : List ℕ). whole_octets k vs.0 ++ o) (forms_whole kinds vs.1)

-- P holds of what G gives for the fields that fill the row
abbrev pub Gives : ((kinds : List Kind) → Values kinds → List ℕ) → (List ℕ → Type 0) → List ℕ → ℕ → ℕ → List Part → Type 0
Gives G P m p n parts = (h : HasRow m p parts (p + n)) → P (G (kinds_of parts) h.values)

gives_as : (G : (kinds : List Kind) → Values kinds → List ℕ) (P : List ℕ → Type 0) {m l : List ℕ} {p q n k : ℕ} {parts others : List Part} → m ≡ l → p ≡ q → n ≡ k
    → parts ≡ others → Gives G P m p n parts → Gives G P l q k others
gives_as G P {m} {l} {p} {q} {n} {k} {parts} {others} a b c d f =
    subst (λ (x : List ℕ). Gives G P x q k others) a
    (subst (λ (x : ℕ). Gives G P m x k others) b (subst (λ (x : ℕ). Gives G P m p x others) c (subst (λ (x : List Part). Gives G P m p n x) d f)))

-- of a view: P holds of what G gives for the fields of the value
view_gives : (G : (kinds : List Kind) → Values kinds → List ℕ) (P : List ℕ → Type 0) (m : List ℕ) (p n : ℕ) (t : RecordType) (v : RData) (r : RDataRef)
    → IsViewOf m p n t r → (f : Fills m p n t v) → Gives G P r.view.message.now r.view.offset r.view.len r.view.row.now → P (G (shape t) f.values)
view_gives G P m p n t v r is f w = gives_as G P is.view.message is.view.offset is.view.len is.view.row w
    (record { values = f.values; stands = f.region.stands; meets = meets_row (table t) f.values f.region.holds })

pub view_writes : (P : List ℕ → Type 0) (m : List ℕ) (p n : ℕ) (t : RecordType) (v : RData) (r : RDataRef) → IsViewOf m p n t r → Fills m p n t v
    → Gives (all_form false) P r.view.message.now r.view.offset r.view.len r.view.row.now → P (whole_data v)
view_writes P m p n t v r is f w =
    let whole : all_form false (shape t) f.values ≡ whole_data v =
    forms_whole (shape t) f.values ∙ sym (ap (λ (x : FieldsOf). all_whole x.kinds x.values) f.value.fields) in
    subst P whole (view_gives (all_form false) P m p n t v r is f w)

pub view_canonical : (P : List ℕ → Type 0) (m : List ℕ) (p n : ℕ) (t : RecordType) (v : RData) (r : RDataRef) → IsViewOf m p n t r → Fills m p n t v
    → Gives canonical P r.view.message.now r.view.offset r.view.len r.view.row.now → P (data_octets v)
view_canonical P m p n t v r is f w = subst P (sym (filled_octets f)) (view_gives canonical P m p n t v r is f w)

-- ---- two views

same_rows : {l m : List ℕ} {q k p n : ℕ} {t u : RecordType} {r s : RDataRef} → IsViewOf m p n t r → IsViewOf l q k u s → t ≡ u → r.view.row.now ≡ s.view.row.now
same_rows a b e = a.view.row ∙ ap (λ (t : RecordType). parts_of (table t)) e ∙ sym b.view.row

-- views of one type compare as the values
pub view_compared : (m l : List ℕ) (p n q k : ℕ) (t u : RecordType) (v w : RData) (r s : RDataRef) (o : Ordering) → IsViewOf m p n t r → Fills m p n t v
    → IsViewOf l q k u s → Fills l q k u w → t ≡ u
    → (r.view.row.now ≡ s.view.row.now → (h : HasRow r.view.message.now r.view.offset r.view.row.now (r.view.offset + r.view.len))
    (j : HasRow s.view.message.now s.view.offset r.view.row.now (s.view.offset + s.view.len))
    → o ≡ slice_cmp nat_cmp (canonical (kinds_of r.view.row.now) h.values) (canonical (kinds_of r.view.row.now) j.values))
    → o ≡ rdata_cmp v w
view_compared m l p n q k t u v w r s o a f b g e told =
    let f' : Fills m p n u v = subst (λ (x : RecordType). Fills m p n x v) e f in
    let rows = same_rows a b e in
    let second : (z : List ℕ) → Gives canonical (λ x. o ≡ slice_cmp nat_cmp z x) s.view.message.now s.view.offset s.view.len s.view.row.now
    → o ≡ slice_cmp nat_cmp z (data_octets w) = λ z. view_canonical (λ x. o ≡ slice_cmp nat_cmp z x) l q k u w s b g in
    let both : o ≡ slice_cmp nat_cmp (data_octets v) (data_octets w) =
    view_canonical (λ z. o ≡ slice_cmp nat_cmp z (data_octets w)) m p n t v r a f (λ h. second (canonical (kinds_of r.view.row.now) h.values)
    (subst (λ (x : List Part). Gives canonical (λ y. o ≡ slice_cmp nat_cmp (canonical (kinds_of r.view.row.now) h.values) y) s.view.message.now s.view.offset s.view.len x)
    rows (told rows h))) in
    both ∙ sym (orders_read v w u m p n l q k f' g)

-- values of one type that compare equal are equal, and values of two types are not
pub view_equal : (v w : RData) (o : Ordering) → o ≡ rdata_cmp v w → is_eq o ≡ equal v w
view_equal v w o is = ap is_eq is ∙ sym (rdata_ties v w)

pub view_apart : {m l : List ℕ} {p n q k : ℕ} {t u : RecordType} (v w : RData) → Fills m p n t v → Fills l q k u w → t ≢ u → false ≡ equal v w
view_apart v w f g ne = ⊎_elim
    (λ (h : equal v w ≡ true). absurd (ne (sym f.value.type ∙ (code_of-Decides (type_of v) (type_of w)).0 (types_equal variant_keys v w h) ∙ g.value.type)))
    (λ (h : equal v w ≡ false). sym h) (cases_Bool (equal v w))
