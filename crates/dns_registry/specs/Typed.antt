-- RDATA by the format of its type, and why it is rejected.
use Rattle.std.specs.Prelude.{◌≡◌, ℕ, zero, suc, ◌+◌, ◌⊎◌, List, [], ◌∷◌, take, drop, slice_get, Some, unwrap_or}
use Rattle.dns_types.specs.{declared.record_type.RecordType.RecordType, RecordTypes.number_of}
use Rattle.dns_types.specs.declared.error.DecodeError.TheVariants as decode
use Rattle.dns_fields.specs.{Fields.Values, Fields.Stands}
use Rattle.dns_rows.specs.{declared.row.Part.Part, Table.kinds_of}
use Rattle.dns_rows.specs.declared.row.TheConstants as base
use Rattle.dns_names_wire.specs.State.{Reading}
use Rattle.dns_check.specs.{Checks.FillsRow, Checks.IsRowError}
use Rattle.dns_view.specs.ViewOf as row_view
use Rattle.dns_registry.specs.declared.format.TheConstants as rows
use Rattle.dns_registry.specs.declared.rule.FieldRule.{FieldRule}
use Rattle.dns_registry.specs.declared.typed.{TypedError.TypedError, TypedRef.TypedRef}
use Rattle.dns_registry.specs.declared.typed.TypedError.TheVariants as errors
use Rattle.dns_registry.specs.{FieldRules.Passes, Formats.FormatRow, Formats.format_row, Formats.AllPass, Registry.registry}

-- RDATA of the type is never read: types that only questions have (RFC 1035, 3.2.3; RFC 1995, 2), by their numbers
abbrev pub IsQuestionType : ℕ → Type 0
IsQuestionType n = (n ≡ 251) ⊎ (n ≡ 252) ⊎ (n ≡ 253) ⊎ (n ≡ 254) ⊎ (n ≡ 255)

-- The format of RDATA of this type that begins with these octets. A type without a format of its own has any octets (RFC 3597, 4).
abbrev pub format_for : RecordType → List ℕ → FormatRow
format_for t octets = unwrap_or (registry (number_of t) octets) (format_row base.NULL rows.NO_RULES)

-- that of the n octets from p on of a message
abbrev pub format_at : List ℕ → ℕ → ℕ → RecordType → FormatRow
format_at m p n t = format_for t (take n (drop p m))

-- The fields of the format fill the n octets from p on, and each is as its rule asks.
pub record FillsFormat (m : List ℕ) (p n : ℕ) (f : FormatRow) : Type 0 where
  pub fills : FillsRow m p n f.parts
  pub pass : AllPass m p f.parts f.rules fills.has.values (p + n) fills.has.stands

-- In the message m, the n octets from p are RDATA of this type.
pub record IsTyped (m : List ℕ) (p n : ℕ) (t : RecordType) : Type 0 where
  pub read : IsQuestionType (number_of t) → ⊥
  pub fills : FillsFormat m p n (format_at m p n t)

-- They are not.
pub record NotTyped (m : List ℕ) (p n : ℕ) (t : RecordType) : Type 0 where
  pub none : IsTyped m p n t → ⊥

-- the field of this index is as a rule asks
abbrev pub PassesAt : ℕ → FieldRule → (m : List ℕ) (p : ℕ) (parts : List Part) (vs : Values (kinds_of parts)) (e : ℕ)
    → Stands m p (kinds_of parts) vs e → Type 0
PassesAt i rule m p [] vs e s = Unit {0}
PassesAt zero rule m p (part ∷ parts) vs e s = Passes rule m p part.kind vs.0 s.0
PassesAt (suc i) rule m p (part ∷ parts) vs e s = PassesAt i rule m s.0 parts vs.1 e s.2

-- the first fields, so many, are each as its rule asks
abbrev pub FirstPass : ℕ → (rules : List FieldRule) (m : List ℕ) (p : ℕ) (parts : List Part) (vs : Values (kinds_of parts)) (e : ℕ)
    → Stands m p (kinds_of parts) vs e → Type 0
FirstPass zero rules m p parts vs e s = Unit {0}
FirstPass (suc i) [] m p parts vs e s = Unit {0}
FirstPass (suc i) (rule ∷ rules) m p [] vs e s = Unit {0}
FirstPass (suc i) (rule ∷ rules) m p (part ∷ parts) vs e s = Passes rule m p part.kind vs.0 s.0 × FirstPass i rules m s.0 parts vs.1 e s.2

-- The fields fill the octets, and the field of index i is the first one that is not as its rule asks.
pub record RejectsField (m : List ℕ) (p n : ℕ) (row : FormatRow) (i : ℕ) : Type 0 where
  pub fills : FillsRow m p n row.parts
  pub rule : FieldRule
  pub is_rule : slice_get row.rules i ≡ Some rule
  pub before : FirstPass i row.rules m p row.parts fills.has.values (p + n) fills.has.stands
  pub fails : PassesAt i rule m p row.parts fills.has.values (p + n) fills.has.stands → ⊥

-- Why n octets are no RDATA by a format, and where the decoder is then: the fields do not fill them; or a field is not as its rule
-- asks, and the decoder is at the end.
abbrev pub IsFormatError : FormatRow → ℕ → Reading → TypedError → Reading → Type 0
IsFormatError row n old (errors.Decode e) new = IsRowError row.parts n old e new
IsFormatError row n old (errors.Field i name) new = RejectsField old.message old.index n row i
    × (new ≡ record { message = old.message; index = old.index + n })

-- why n octets are no RDATA of the type
abbrev pub IsTypedError : RecordType → ℕ → Reading → TypedError → Reading → Type 0
IsTypedError t n old e new =
    (IsQuestionType (number_of t) × (e ≡ errors.Decode (decode.UnknownRecordTypeValue (number_of t))) × (new ≡ old))
    ⊎ IsFormatError (format_at old.message old.index n t) n old e new

-- this is the view of the n octets from p on, which are RDATA of the type
pub record IsTypedViewOf (m : List ℕ) (p n : ℕ) (t : RecordType) (r : TypedRef) : Type 0 where
  pub type : r.view.record_type ≡ t
  pub rules : r.rules.now ≡ (format_at m p n t).rules
  pub view : row_view.IsViewOf (record { message = m; index = p }) n (format_at m p n t).parts r.view
  pub typed : IsTyped m p n t
