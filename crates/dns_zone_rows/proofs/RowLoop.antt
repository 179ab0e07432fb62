-- Fields taken one after the other.
use Rattle.std.proofs.Common.{◌≡◌, ℕ, suc, ◌+◌, ◌<◌, List, [], ◌∷◌, ◌++◌, length, map, drop, get_or, Option, Result, Ok, refl, sym, subst, ap, ◌∙◌, inl, inr}
use Rattle.std.proofs.{Math.Seq.drop-cons, lemmas.List.drop_all, lemmas.List.append-nil, Common.◌⊎◌, Common.◌≤◌, Common.append_assoc, Common.add-one}
use Rattle.std.specs.{Borrow.Bor, Prelude.IfErr, Result.IsErrAnd}
use Rattle.dns_fields.specs.Labels.{DomainName}
use Rattle.dns_types.specs.declared.error.ParseError.{ParseError}
use Rattle.dns_types.specs.declared.error.ParseError.TheVariants as parse
use Rattle.dns_tokens.specs.Reads.{UnlessParseMemory}
use Rattle.dns_zone_tokens.specs.Remaining.{TookAll, NoneOfAll, ReadsAll, PutAll}
use Rattle.dns_zone_tokens.specs.Tokens.{Token, Cursor, tokens_at, seen_at, with_token}
use Rattle.dns_tokens.proofs.Steps.{unless_map}
use Rattle.dns_zone_tokens.proofs.{FirstSteps.exit_fault, FirstSteps.exit_with, FirstSteps.or_then, RemainingSteps.token_ok}
use Rattle.dns_zone_rows.specs.{RowSteps.AddedFirst, RowSteps.NoFirstGives, RowSteps.PutField, Rows.FieldGives, Rows.RestGives, Rows.FieldsGive, Rows.RowGives, Rows.RowShape}
use Rattle.dns_zone_rows.specs.Rows.{NoToken}
use Rattle.dns_zone_rows.specs.declared.zone_row.ZoneRest.TheVariants as rest
use Rattle.dns_zone_rows.specs.{declared.zone_row.ZoneField.ZoneField, declared.zone_row.ZoneRest.ZoneRest, declared.zone_row.ZoneRow.ZoneRow}
use Rattle.dns_zone_rows.specs.RowFaults.{kind_of, rest_kind_of, row_value, FieldFault, RestFault, FieldsFault, RowFault}

-- the octets that the tokens give by these fields
pub record Given (origin : Option DomainName) (fields : List ZoneField) (rest : ZoneRest) (octets : List ℕ) (tokens : List Token) : Type 0 where
  pub is : FieldsGive origin (map kind_of fields) (rest_kind_of rest) octets tokens

-- the text has tokens, which give these octets
pub record GivenAt (origin : Option DomainName) (fields : List ZoneField) (rest : ZoneRest) (octets : List ℕ) (cursor : Cursor) : Type 0 where
  pub tokens : List Token
  pub divided : tokens_at cursor ≡ Ok tokens
  pub given : Given origin fields rest octets tokens

-- Fields were taken from the text at the old cursor, whose octets these are, and those left are yet to be taken at the new one.
pub record FieldsSoFar (origin : Option DomainName) (fields left : List ZoneField) (rest : ZoneRest) (old now : Cursor) (octets : List ℕ) : Type 0 where
  pub gives : (behind : List ℕ) → GivenAt origin left rest behind now → GivenAt origin fields rest (octets ++ behind) old
  pub only : (all : List ℕ) → GivenAt origin fields rest all old → (behind : List ℕ) × GivenAt origin left rest behind now
  pub fault : (e : ParseError) → FieldsFault origin left rest now e → FieldsFault origin fields rest old e

none_so : (origin : Option DomainName) (fields : List ZoneField) (rest : ZoneRest) (cursor : Cursor) → FieldsSoFar origin fields fields rest cursor cursor []
none_so origin fields rest cursor = record { gives = λ behind at. at; only = λ all at. (all, at); fault = λ e f. f }

first_given : {origin : Option DomainName} {field : ZoneField} {left : List ZoneField} {rest : ZoneRest} {before after behind : List ℕ} {now new : Cursor}
    (a : AddedFirst (FieldGives origin (kind_of field)) before after now new) → GivenAt origin left rest behind new
    → GivenAt origin (field ∷ left) rest (a.octets ++ behind) now
first_given {behind = behind} a at = record {
  tokens = a.token ∷ at.tokens;
  divided = a.first ∙ ap (with_token a.token) at.divided;
  given = record { is = record { front = a.octets; behind = behind; same = refl; first = a.given; others = at.given.is } };
}

behind_of : (origin : Option DomainName) (field : ZoneField) (left : List ZoneField) (rest : ZoneRest) (octets : List ℕ) (token : Token) (tokens : List Token)
    → Given origin (field ∷ left) rest octets (token ∷ tokens) → (behind : List ℕ) × Given origin left rest behind tokens
behind_of origin field left rest octets token tokens g = (g.is.behind, record { is = g.is.others })

others_given : {origin : Option DomainName} {field : ZoneField} {left : List ZoneField} {rest : ZoneRest} {before after : List ℕ} {now new : Cursor} (octets : List ℕ)
    → AddedFirst (FieldGives origin (kind_of field)) before after now new → GivenAt origin (field ∷ left) rest octets now
    → (behind : List ℕ) × GivenAt origin left rest behind new
others_given {origin} {field} {left} {rest} {now = now} {new = new} octets a at =
    let k = token_ok a.token (tokens_at new) at.tokens (sym a.first ∙ at.divided) in
    let g = behind_of origin field left rest octets a.token k.0 (subst (Given origin (field ∷ left) rest octets) k.2 at.given) in
    (g.0, record { tokens = k.0; divided = k.1; given = g.1 })

-- one field more was taken
field_taken : (origin : Option DomainName) (fields : List ZoneField) (field : ZoneField) (left : List ZoneField) (rest : ZoneRest) (old now new : Cursor) (before after : List ℕ)
    → FieldsSoFar origin fields (field ∷ left) rest old now before → AddedFirst (FieldGives origin (kind_of field)) before after now new
    → FieldsSoFar origin fields left rest old new after
field_taken origin fields field left rest old now new before after so a = record {
  gives = λ more at. subst (λ (s : List ℕ). GivenAt origin fields rest s old)
      (sym (append_assoc before a.octets more) ∙ ap (λ (s : List ℕ). s ++ more) (sym a.same))
      (so.gives (a.octets ++ more) (first_given a at));
  only = λ all at. let k = so.only all at in others_given k.0 a k.1;
  fault = λ e f. so.fault e (inr (record { token = a.token; behind = new; first = a.first; seen = a.seen; octets = a.octets; given = a.given; has = f }));
}

-- ---- by the index in the zone row

abbrev shape_of : List ZoneField → ZoneRest → RowShape
shape_of fields rest = record { fields = map kind_of fields; rest = rest_kind_of rest }

-- the fields before an index were taken
pub record RowSoFar (origin : Option DomainName) (fields : List ZoneField) (rest : ZoneRest) (at : ℕ) (old now : Cursor) (octets : List ℕ) : Type 0 where
  pub so : FieldsSoFar origin fields (drop at fields) rest old now octets

pub row_so : (origin : Option DomainName) (fields : List ZoneField) (rest : ZoneRest) (cursor : Cursor) (octets : List ℕ) → octets ≡ []
    → RowSoFar origin fields rest 0 cursor cursor octets
row_so origin fields rest cursor octets e = record {
  so = subst (FieldsSoFar origin fields fields rest cursor cursor) (sym e) (none_so origin fields rest cursor);
}

-- the field at the index, and those after it
here : (origin : Option DomainName) (fields : List ZoneField) (rest : ZoneRest) (at : ℕ) (old now : Cursor) (octets : List ℕ) (d : ZoneField)
    → at < length fields → RowSoFar origin fields rest at old now octets
    → FieldsSoFar origin fields (get_or fields at d ∷ drop (suc at) fields) rest old now octets
here origin fields rest at old now octets d l so =
    subst (λ (left : List ZoneField). FieldsSoFar origin fields left rest old now octets) (drop-cons fields at d l) so.so

-- none is left
over : (origin : Option DomainName) (fields : List ZoneField) (rest : ZoneRest) (at : ℕ) (old now : Cursor) (octets : List ℕ) → length fields ≤ at
    → RowSoFar origin fields rest at old now octets
    → FieldsSoFar origin fields [] rest old now octets
over origin fields rest at old now octets l so =
    subst (λ (left : List ZoneField). FieldsSoFar origin fields left rest old now octets) (drop_all at fields l) so.so

pub field_more : (origin : Option DomainName) (fields : List ZoneField) (rest : ZoneRest) (at : ℕ) (old now new : Cursor) (before after : List ℕ)
    (d : ZoneField) → at < length fields
    → RowSoFar origin fields rest at old now before → AddedFirst (FieldGives origin (kind_of (get_or fields at d))) before after now new
    → RowSoFar origin fields rest (at + 1) old new after
field_more origin fields rest at old now new before after d l so a =
    let next : FieldsSoFar origin fields (drop (suc at) fields) rest old new after =
    field_taken origin fields (get_or fields at d) (drop (suc at) fields) rest old now new before after
    (here origin fields rest at old now before d l so) a in
    record { so = rw add-one next }

-- ---- errors

no_first : {origin : Option DomainName} {field : ZoneField} {left : List ZoneField} {rest : ZoneRest} {now : Cursor} (octets : List ℕ) (tokens : List Token)
    → tokens_at now ≡ Ok tokens → Given origin (field ∷ left) rest octets tokens → NoFirstGives (FieldGives origin (kind_of field)) now → ⊥
no_first octets [] divided g none = g.is
no_first octets (token ∷ tokens) divided g none = none.none g.is.front token tokens divided g.is.first

-- what the remaining tokens do not give by what is left of the zone row
row_refused : {origin : Option DomainName} (zone_row : ZoneRow) {left : List ZoneField} {old now : Cursor} {before : List ℕ} (e : ParseError) (P : Type 0)
    → FieldsSoFar origin zone_row.fields.now left zone_row.rest old now before
    → (P → (octets : List ℕ) (tokens : List Token) → tokens_at now ≡ Ok tokens → Given origin left zone_row.rest octets tokens → ⊥)
    → UnlessParseMemory e P → UnlessParseMemory e (NoneOfAll (RowGives origin (row_value zone_row)) old)
row_refused {origin} zone_row {old = old} e P so not = unless_map e P (NoneOfAll (RowGives origin (row_value zone_row)) old)
    (λ no. record {
      none = λ v tokens divided is.
          let k = so.only v (record { tokens = tokens; divided = divided; given = record { is = is.fields } }) in
          not no k.0 k.1.tokens k.1.divided k.1.given;
    })

-- all were taken
fields_taken : (origin : Option DomainName) (fields : List ZoneField) (rest : ZoneRest) (old now : Cursor) (before after : List ℕ)
    → FieldsSoFar origin fields [] rest old now before → PutAll (RestGives (rest_kind_of rest)) before after now
    → TookAll (RowGives origin (shape_of fields rest)) after old
fields_taken origin fields rest old now before after so a =
    let at = so.gives a.octets (record { tokens = a.tokens; divided = a.divided; given = record { is = a.given } }) in
    let given = subst (λ (s : List ℕ). FieldsGive origin (map kind_of fields) (rest_kind_of rest) s at.tokens) (sym a.same) at.given.is in
    record { tokens = at.tokens; divided = at.divided; value = record { fields = given } }

-- ---- ways out of the loop

pub exit_field : {T : Type 0} (view : T → List ℕ) (r : Result T ParseError) (origin : Option DomainName) (zone_row : ZoneRow) (at : ℕ) (old now : Cursor) (before : List ℕ)
    (d : ZoneField) (e : ParseError) → IsErrAnd r (λ y. y ≡ e) → at < length zone_row.fields.now → RowSoFar origin zone_row.fields.now zone_row.rest at old now before
    → UnlessParseMemory e (NoFirstGives (FieldGives origin (kind_of (get_or zone_row.fields.now at d))) now)
    → ReadsAll (RowGives origin (row_value zone_row)) view r old
exit_field view r origin zone_row at old now before d e h l so none = exit_with (λ r. ReadsAll (RowGives origin (row_value zone_row)) view r old) e r h
    (row_refused zone_row e _ (here origin zone_row.fields.now zone_row.rest at old now before d l so)
    (λ no octets tokens divided given. no_first octets tokens divided given no) none)

pub exit_field_fault : {T : Type 0} (r : Result T ParseError) (origin : Option DomainName) (zone_row : ZoneRow) (at : ℕ) (old now : Cursor) (before : List ℕ)
    (d : ZoneField) (e : ParseError) → IsErrAnd r (λ y. y ≡ e) → at < length zone_row.fields.now → RowSoFar origin zone_row.fields.now zone_row.rest at old now before
    → (e ≡ parse.Memory) ⊎ FieldFault origin (get_or zone_row.fields.now at d) now e → IfErr r (λ y. (y ≡ parse.Memory) ⊎ RowFault origin zone_row old y)
exit_field_fault r origin zone_row at old now before d e h l so f = exit_fault (λ y. (y ≡ parse.Memory) ⊎ RowFault origin zone_row old y) r e h
    (or_then (λ fault. record { fault = (here origin zone_row.fields.now zone_row.rest at old now before d l so).fault e (inl fault) }) f)

pub exit_rest : {T : Type 0} (view : T → List ℕ) (r : Result T ParseError) (origin : Option DomainName) (zone_row : ZoneRow) (at : ℕ) (old now : Cursor) (before : List ℕ)
    (e : ParseError) → IsErrAnd r (λ y. y ≡ e) → length zone_row.fields.now ≤ at → RowSoFar origin zone_row.fields.now zone_row.rest at old now before
    → UnlessParseMemory e (NoneOfAll (RestGives (rest_kind_of zone_row.rest)) now) → ReadsAll (RowGives origin (row_value zone_row)) view r old
exit_rest view r origin zone_row at old now before e h l so none = exit_with (λ r. ReadsAll (RowGives origin (row_value zone_row)) view r old) e r h
    (row_refused zone_row e _ (over origin zone_row.fields.now zone_row.rest at old now before l so)
    (λ no octets tokens divided given. no.none octets tokens divided given.is) none)

pub exit_rest_fault : {T : Type 0} (r : Result T ParseError) (origin : Option DomainName) (zone_row : ZoneRow) (at : ℕ) (old now : Cursor) (before : List ℕ)
    (e : ParseError) → IsErrAnd r (λ y. y ≡ e) → length zone_row.fields.now ≤ at → RowSoFar origin zone_row.fields.now zone_row.rest at old now before
    → (e ≡ parse.Memory) ⊎ RestFault zone_row.rest now e → IfErr r (λ y. (y ≡ parse.Memory) ⊎ RowFault origin zone_row old y)
exit_rest_fault r origin zone_row at old now before e h l so f = exit_fault (λ y. (y ≡ parse.Memory) ⊎ RowFault origin zone_row old y) r e h
    (or_then (λ fault. record { fault = (over origin zone_row.fields.now zone_row.rest at old now before l so).fault e fault }) f)

pub row_taken : (origin : Option DomainName) (fields : List ZoneField) (rest : ZoneRest) (at : ℕ) (old now : Cursor) (before after result : List ℕ) → length fields ≤ at
    → RowSoFar origin fields rest at old now before → PutAll (RestGives (rest_kind_of rest)) before after now → result ≡ after
    → TookAll (RowGives origin (shape_of fields rest)) result old
row_taken origin fields rest at old now before after result l so a e =
    subst (λ (s : List ℕ). TookAll (RowGives origin (shape_of fields rest)) s old) (sym e)
    (fields_taken origin fields rest old now before after (over origin fields rest at old now before l so) a)

-- ---- fields alone

pub put_first : {gives : List ℕ → Token → Type 0} {before after : List ℕ} {token : Token} {now new : Cursor} → tokens_at now ≡ with_token token (tokens_at new)
    → seen_at now ≡ token ∷ seen_at new → PutField gives before after token → AddedFirst gives before after now new
put_first {token = token} first seen put = record { token = token; first = first; seen = seen; octets = put.octets; given = put.given; same = put.same }

-- no token is left
pub row_over : (origin : Option DomainName) (fields : List ZoneField) (surplus : Bor (List ℕ)) (at : ℕ) (start old now : Cursor) (octets : List ℕ)
    → tokens_at old ≡ tokens_at start → length fields ≤ at → RowSoFar origin fields (rest.Nothing surplus) at old now octets → tokens_at now ≡ Ok []
    → TookAll (RowGives origin (record { fields = map kind_of fields; rest = NoToken })) octets start
row_over origin fields surplus at start old now octets same l so end =
    let none : PutAll (RestGives NoToken) octets octets now =
    record { tokens = []; divided = end; octets = []; given = (refl, refl); same = sym (append-nil octets) } in
    let all = row_taken origin fields (rest.Nothing surplus) at old now octets octets octets l so none refl in
    record { tokens = all.tokens; divided = sym same ∙ all.divided; value = all.value }
