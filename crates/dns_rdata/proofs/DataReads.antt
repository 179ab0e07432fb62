-- Reading data of each type.
use Rattle.std.proofs.Common.{[], ◌∷◌, ◌≡◌, ◌≢◌, ℕ, ◌+◌, ◌-◌, ◌≤◌, ◌⊎◌, inl, inr, List, length, refl, arith, subst, sym, ap, ◌∙◌, Result, Ok, Err}
use Rattle.std.specs.Result.{IfOk, IfErr, OnOk, IsErrAnd}
use Rattle.std.proofs.lemmas.Result.{err_from_is_err_and}
use Rattle.dns_fields.specs.{Octets.AreOctets, Fields.Values}
use Rattle.dns_types.specs.{declared.error.DecodeError.DecodeError, declared.record_type.RecordType.RecordType, RecordTypes.number_of}
use Rattle.dns_types.specs.declared.error.DecodeError.TheVariants as decode
use Rattle.dns_types.specs.declared.record_type.RecordType.TheVariants as types
use Rattle.dns_names_wire.specs.{State.Reading, Terms.StaysBehind, Terms.UnlessMemory, Terms.Region}
use Rattle.dns_names_wire.proofs.FieldReads.{stays, unless_map}
use Rattle.dns_rdata_base.specs.{declared.null.NULL.NULL, NULL.null_shape, NULL.null_fields}
use Rattle.dns_rows.specs.Table.{TypeRow, fields as row, unread, formatless, table, kinds_of}
use Rattle.dns_rdata.specs.declared.record_data.RData.{RData}
use Rattle.dns_rdata.specs.declared.record_data.RData.TheVariants as rdata
use Rattle.dns_rdata.specs.Data.{parts_of, MeetsRule, IsFormatless, IsNever, FieldsOf, shape, MeetsCondition, type_of}
use Rattle.dns_rdata.specs.Data.{IsUnknownType, IsValue, Fills, NoValue, IsEmittable, IsNeverRead}
use Rattle.dns_rdata.specs.{Laws.ReadsCanonical, ReadErrors.IsReadError}
use Rattle.dns_rows.specs.declared.row.{Part.Part}
use Rattle.dns_rows.specs.declared.row.TheConstants as rows
use Rattle.dns_check.specs.{Checks.NoFill, Checks.IsRowError, ByRow.TookWhole}
use Rattle.dns_rdata.proofs.DataLaws.{fills_emittable, reads_canonical}
use Rattle.dns_rdata.proofs.Views.{row_none, row_why}

-- ---- a value

-- a value is read, which fills the n octets, and the decoder is at their end
pub record HasRead (t : RecordType) (n : ℕ) (v : RData) (old new : Reading) : Type 0 where
  pub fills : Fills old.message old.index n t v
  pub after : new.index ≡ old.index + n
  pub behind : StaysBehind old new

-- what is so of each value that is read
pub of_read : {X E : Type 0} {r : Result X E} {x : X} (P : X → Type 0) → IfOk r P → r ≡ Ok x → P x
of_read P h e = subst (λ z. IfOk z P) e h

-- the fields of the type that a record's reader took, which fill the octets, are those of a value
pub has_read : {X : Type 0} {n : ℕ} {old new : Reading} (t : RecordType) (f : X → RData) (fields : X → Values (shape t)) (x : X) → new.message ≡ old.message
    → new.index ≡ old.index + n → Region old.message old.index n (shape t) (MeetsCondition t) (fields x) → IsValue t (fields x) (f x) → HasRead t n (f x) old new
has_read t f fields x message index region value = record {
  fills = record { values = fields x; region = region; value = value };
  after = index;
  behind = record { message = message; index = omega (arith, index) };
}

-- ---- types without a format of their own

-- the type is none of these
abbrev pub IsNone : RecordType → List RecordType → Type 0
IsNone t [] = Unit {0}
IsNone t (u ∷ us) = (t ≢ u) × IsNone t us

-- the types that have a format of their own, and those that are never read
abbrev pub known_types : List RecordType
known_types =
    types.A ∷ types.AAAA ∷ types.ANAME ∷ types.CAA ∷ types.CERT ∷ types.CNAME ∷ types.CSYNC ∷ types.HINFO ∷ types.HTTPS ∷ types.MX ∷ types.NAPTR ∷ types.NULL
    ∷ types.NS ∷ types.OPENPGPKEY ∷ types.OPT ∷ types.PTR ∷ types.SMIMEA ∷ types.SOA ∷ types.SRV ∷ types.SSHFP ∷ types.SVCB ∷ types.TLSA ∷ types.TXT
    ∷ types.ZERO ∷ types.ANY ∷ types.AXFR ∷ types.IXFR ∷ []

pub has_no_format : (t : RecordType) → IsNone t known_types → IsUnknownType t
has_no_format types.A none = absurd (none.0 refl)
has_no_format t none = grind arith

formatless_read : (q : TypeRow) → IsFormatless q → IsNever q → ⊥
formatless_read (row parts) h never = never
formatless_read unread h never = h
formatless_read formatless h never = never

pub unknown_once : (t : RecordType) → IsUnknownType t → IsNeverRead t → ⊥
unknown_once t h = formatless_read (table t) h

abbrev fields_as : (q : TypeRow) → Values (kinds_of (parts_of q)) → FieldsOf
fields_as q vs = record { kinds = kinds_of (parts_of q); values = vs }

-- any octets are the fields of such a type
formatless_region : (q : TypeRow) (m : List ℕ) (p n : ℕ) (vs : Values null_shape) → IsFormatless q → Region m p n null_shape (λ _. Unit {0}) vs
    → (ws : Values (kinds_of (parts_of q))) × Region m p n (kinds_of (parts_of q)) (MeetsRule q) ws × (record { kinds = null_shape; values = vs } ≡ fields_as q ws)
formatless_region (row parts) m p n vs h w = absurd h
formatless_region unread m p n vs h w = absurd h
formatless_region formatless m p n vs h w = (vs, w, refl)

pub unknown_read : {n : ℕ} {old new : Reading} (t : RecordType) (x : NULL) → IsUnknownType t → TookWhole old n rows.NULL (null_fields x) new
    → HasRead t n (rdata.Unknown t x) old new
unknown_read {n} {old} t x none took =
    let w = formatless_region (table t) old.message old.index n (null_fields x) none took.region in
    has_read t (λ x. rdata.Unknown t x) (λ x. w.0) x took.message took.index w.1 (record { type = refl; fields = w.2; can_be_read = none })

formatless_parts : (q : TypeRow) → IsFormatless q → parts_of q ≡ rows.NULL
formatless_parts (row parts) h = absurd h
formatless_parts unread h = absurd h
formatless_parts formatless h = refl

-- ---- type 0, which has no fields

zero_read : {n : ℕ} {d : Reading} → n ≡ 0 → d.index ≤ length d.message → AreOctets d.message → HasRead types.ZERO n rdata.ZERO d d
zero_read {n} {d} none inside octets =
    let here : d.index ≡ d.index + n = omega (arith, none) in
    record {
      fills = record {
        values = tt;
        region = record { octets = octets; short = omega (arith, none); within = omega (arith, none, inside); stands = here; holds = tt };
        value = record { type = refl; fields = refl; can_be_read = tt };
      };
      after = here;
      behind = stays d;
    }

-- ---- what the clauses of reading say

-- a type whose RDATA is never read has no value
read_once : (q : TypeRow) (vs : Values (kinds_of (parts_of q))) → MeetsRule q vs → IsNever q → ⊥
read_once (row parts) vs h never = never
read_once unread vs h never = h
read_once formatless vs h never = never

abbrev pub Clauses : RecordType → ℕ → Result RData DecodeError → Reading → Reading → Type 0
Clauses t n r old new = record {
  found : IfOk r (λ v. Fills old.message old.index n t v);
  after : OnOk r (new.index ≡ old.index + n);
  kind : IfOk r (λ v. type_of v ≡ t);
  refused : IfErr r (λ e. UnlessMemory e (NoValue old.message old.index n t));
  why : IfErr r (IsReadError t n old new);
  never : IsNeverRead t → (new ≡ old) × (r ≡ Err (decode.UnknownRecordTypeValue (number_of t)));
  behind : StaysBehind old new;
  canonical : IfOk r (ReadsCanonical t);
  emittable : IfOk r IsEmittable;
}

-- where the type is that of an arm, and the arm gives a value
pub gives : {t u : RecordType} {n : ℕ} {v : RData} {old new : Reading} → t ≡ u → HasRead u n v old new → Clauses t n (Ok v) old new
gives {t} {u} {n} {v} {old} {new} is h =
    let f : Fills old.message old.index n t v = rw is h.fills in
    record {
      found = f;
      after = h.after;
      kind = f.value.type;
      refused = tt;
      why = tt;
      never = λ never. absurd (read_once (table t) f.values f.region.holds never);
      behind = h.behind;
      canonical = reads_canonical old.message old.index n t v f;
      emittable = fills_emittable f;
    }

row_error : (t : RecordType) (n : ℕ) (e : DecodeError) (old new : Reading) → (IsNeverRead t → ⊥) → UnlessMemory e (IsRowError (parts_of (table t)) n old e new)
    → IsReadError t n old new e
row_error t n decode.Memory old new read h = tt
row_error t n e old new read h = (row_why t n old new e read h).0

-- memory ran out, or the row gives the error
error_fails : (t : RecordType) (n : ℕ) (e : DecodeError) (old new : Reading) → (IsNeverRead t → ⊥) → UnlessMemory e (NoFill old.message old.index n (parts_of (table t)))
    → UnlessMemory e (IsRowError (parts_of (table t)) n old e new) → StaysBehind old new → Clauses t n (Err e) old new
error_fails t n e old new read none why b = record {
  found = tt;
  after = tt;
  kind = tt;
  refused = unless_map e _ _ (row_none old.message old.index n t) none;
  why = row_error t n e old new read why;
  never = λ never. absurd (read never);
  behind = b;
  canonical = tt;
  emittable = tt;
}

-- where an arm gives no value
pub fails : {u : RecordType} (t : RecordType) (n : ℕ) (e : DecodeError) {old new : Reading} (r : Result RData DecodeError) → u ≡ t → IsErrAnd r (λ y. y ≡ e)
    → (IsNeverRead t → ⊥) → UnlessMemory e (NoFill old.message old.index n (parts_of (table t)))
    → UnlessMemory e (IsRowError (parts_of (table t)) n old e new) → StaysBehind old new → Clauses u n r old new
fails {u} t n e {old} {new} r is err read none why b =
    let p = err_from_is_err_and r err in rw (is, p.1, p.2) (error_fails t n e old new read none why b)

-- the same of a type without a format of its own
pub unknown_fails : (t : RecordType) (n : ℕ) (e : DecodeError) {old new : Reading} (r : Result RData DecodeError) → IsUnknownType t → IsErrAnd r (λ y. y ≡ e)
    → UnlessMemory e (NoFill old.message old.index n rows.NULL) → UnlessMemory e (IsRowError rows.NULL n old e new) → StaysBehind old new → Clauses t n r old new
unknown_fails t n e {old} {new} r none err refused why b =
    let same = sym (formatless_parts (table t) none) in
    fails t n e r refl err (unknown_once t none) (subst (λ (x : List Part). UnlessMemory e (NoFill old.message old.index n x)) same refused)
    (subst (λ (x : List Part). UnlessMemory e (IsRowError x n old e new)) same why) b

unread_type : {t : RecordType} → (t ≡ types.ANY) ⊎ ((t ≡ types.AXFR) ⊎ (t ≡ types.IXFR)) → IsNeverRead t
unread_type (inl e) = rw e tt
unread_type (inr (inl e)) = rw e tt
unread_type (inr (inr e)) = rw e tt

-- a type that is never read
pub never_fails : (t : RecordType) (n : ℕ) (d : Reading) → (t ≡ types.ANY) ⊎ ((t ≡ types.AXFR) ⊎ (t ≡ types.IXFR))
    → Clauses t n (Err (decode.UnknownRecordTypeValue (number_of t))) d d
never_fails t n d h = let never = unread_type h in record {
  found = tt;
  after = tt;
  kind = tt;
  refused = record { none = λ v f. read_once (table t) f.values f.region.holds never };
  why = (never, refl, refl);
  never = λ never. (refl, refl);
  behind = stays d;
  canonical = tt;
  emittable = tt;
}

-- type 0
pub zero_gives : {t : RecordType} {n : ℕ} {d : Reading} → t ≡ types.ZERO → n ≡ 0 → d.index ≤ length d.message → AreOctets d.message → Clauses t n (Ok rdata.ZERO) d d
zero_gives is none inside octets = gives is (zero_read none inside octets)
