-- Texts of zone files that are read, step by step.
use Rattle.std.proofs.Common.{◌≡◌, ◌≢◌, ℕ, true, List, ◌∷◌, length, Option, Some, Result, Ok, ◌⊎◌, inl, inr, refl, sym, ◌∙◌, ap, subst}
use Rattle.std.specs.{Option.option_map, Prelude.IfErr, Prelude.codes}
use Rattle.dns_names_wire.specs.{Terms.UnlessMemory, State.Reading}
use Rattle.dns_fields.specs.Labels.{DomainName}
use Rattle.dns_rdata.specs.{Data.shape, Data.Fills, Data.NoValue, Data.data_octets, ReadErrors.IsReadError, declared.record_data.RData.RData}
use Rattle.dns_types.specs.{Errors.decode_error, Errors.proto_error, declared.error.DecodeError.DecodeError, declared.error.ParseError.ParseError}
use Rattle.dns_types.specs.declared.record_type.RecordType.{RecordType}
use Rattle.dns_types.specs.declared.error.DecodeError.TheVariants as decode
use Rattle.dns_types.specs.declared.error.ParseError.TheVariants as parse
use Rattle.dns_tokens.specs.Reads.{UnlessParseMemory}
use Rattle.dns_zone_rows.specs.{RowFaults.row_value, RowFaults.RowFault, RowTable.zone_row_of, RowTexts.row_texts, RowTexts.texts_of, declared.zone_row.ZoneRow.ZoneRow}
use Rattle.dns_zone_tokens.specs.{Errors.Says, Remaining.AreUnknown, Remaining.TookAll, Tokens.Token, Tokens.Cursor, Tokens.tokens_at, Tokens.seen_at, Tokens.zone_tokens}
use Rattle.dns_tokens.proofs.Steps.{unless_map}
use Rattle.dns_zone_tokens.proofs.{FirstSteps.or_then, NamePuts.if_err, RemainingSteps.token_ok}
use Rattle.dns_rdata_zone.specs.ZoneSteps.{AreNoData, UnknownIs, UnknownIsNone, RowIs, RowIsNone}
use Rattle.dns_rdata_zone.specs.ZoneFaults.{OctetsFault, IsBehindMark, BehindMarkFault, HasNoMark, LacksRow, TokensFault, ByRowFault}
use Rattle.dns_rdata_zone.specs.ZoneGives.{AreUnknownData, AreUnmarked, GiveByRow, TokensGive, IsWhole, has_name, AreDataOf, GivesValue, GivesNone, at_start}
use Rattle.dns_rdata_zone.proofs.ZoneOnce.{same_tokens, unknown_once, not_both, by_row_once, data_one}

-- ---- octets that are read

read_none : (e : DecodeError) (P : Type 0) → UnlessMemory e P → UnlessParseMemory (proto_error (decode_error e)) P
read_none decode.Memory P h = tt
read_none e P h = h

pub octets_refused : (e : DecodeError) (m octets : List ℕ) (p n : ℕ) (t : RecordType) → m ≡ octets → p ≡ 0 → n ≡ length octets
    → UnlessMemory e (NoValue m p n t)
    → UnlessParseMemory (proto_error (decode_error e)) (AreNoData octets t)
octets_refused e m octets p n t same start all h = unless_map (proto_error (decode_error e)) (NoValue m p n t) (AreNoData octets t)
    (λ none. record {
      none = λ v is. none.none v (subst (λ (k : ℕ). Fills m p k t v) (sym all)
          (subst (λ (k : ℕ). Fills m k (length octets) t v) (sym start) (subst (λ (o : List ℕ). Fills o 0 (length octets) t v) (sym same) is.fills)));
    }) (read_none e (NoValue m p n t) h)

-- ---- unknown data

unknown_same : (t : RecordType) (v : RData) (octets : List ℕ) (cursor : Cursor) → TookAll AreUnknown octets cursor → (u : UnknownIs t v cursor)
    → u.octets ≡ octets
unknown_same t v octets cursor took u =
    let tokens : took.tokens ≡ u.tokens = same_tokens (tokens_at cursor) took.tokens u.tokens took.divided u.divided in
    unknown_once u.octets octets u.tokens u.are (subst (AreUnknown octets) tokens took.value)

pub unknown_refused : (e : ParseError) (t : RecordType) (octets s : List ℕ) (cursor : Cursor) → s ≡ octets → TookAll AreUnknown octets cursor
    → UnlessParseMemory e (AreNoData s t)
    → UnlessParseMemory e (UnknownIsNone t cursor)
unknown_refused e t octets s cursor same took h =
    unless_refused e t octets cursor took (subst (λ (o : List ℕ). UnlessParseMemory e (AreNoData o t)) same h) where
      unless_refused : (e : ParseError) (t : RecordType) (octets : List ℕ) (cursor : Cursor) → TookAll AreUnknown octets cursor
          → UnlessParseMemory e (AreNoData octets t) → UnlessParseMemory e (UnknownIsNone t cursor)
      unless_refused e t octets cursor took h = unless_map e (AreNoData octets t) (UnknownIsNone t cursor)
          (λ none. record { none = λ v u. none.none v (subst (λ (o : List ℕ). AreDataOf o t v) (unknown_same t v octets cursor took u) u.is_data) }) h

pub not_whole : (t : RecordType) (v : RData) (octets s : List ℕ) (n : ℕ) (cursor : Cursor) → s ≡ octets → n ≡ length octets → TookAll AreUnknown octets cursor
    → AreDataOf s t v → has_name (shape t) ≡ true → length (data_octets v) ≢ n → UnknownIsNone t cursor
not_whole t v octets s n cursor e counted took is named other = record {
  none = λ w u.
      let same = unknown_same t w octets cursor took u in
      let value : w ≡ v = data_one octets t w v (subst (λ (o : List ℕ). AreDataOf o t w) same u.is_data) (subst (λ (o : List ℕ). AreDataOf o t v) e is) in
      other (ap (λ (x : RData). length (data_octets x)) (sym value) ∙ u.whole named ∙ ap length same ∙ sym counted);
}

-- ---- zone rows

row_none : (e : ParseError) (origin : Option DomainName) (t : RecordType) (octets text : List ℕ) (cursor : Cursor) → tokens_at cursor ≡ zone_tokens text
    → TookAll (GiveByRow origin (zone_row_of t)) octets cursor → UnlessParseMemory e (AreNoData octets t) → UnlessParseMemory e (RowIsNone origin t text)
row_none e origin t octets text cursor starts took h = unless_map e (AreNoData octets t) (RowIsNone origin t text)
    (λ none. record {
      none = λ v u.
          let tokens : u.tokens ≡ took.tokens = same_tokens (zone_tokens text) u.tokens took.tokens u.divided (sym starts ∙ took.divided) in
          let give : GiveByRow origin (zone_row_of t) u.octets took.tokens = subst (GiveByRow origin (zone_row_of t) u.octets) tokens u.give in
          let octets_same : u.octets ≡ octets = by_row_once origin (zone_row_of t) u.octets octets took.tokens give took.value in
          none.none v (subst (λ (o : List ℕ). AreDataOf o t v) octets_same u.is_data);
    }) h

pub row_refused : {T : Type 0} (r : Result T ParseError) (origin : Option DomainName) (t : RecordType) (octets s text : List ℕ) (cursor : Cursor)
    → tokens_at cursor ≡ zone_tokens text
    → s ≡ octets → TookAll (GiveByRow origin (zone_row_of t)) octets cursor → IfErr r (λ e. UnlessParseMemory e (AreNoData s t))
    → IfErr r (λ e. UnlessParseMemory e (RowIsNone origin t text))
row_refused r origin t octets s text cursor starts same took = if_err _ _ r
    (λ e h. row_none e origin t octets text cursor starts took (subst (λ (o : List ℕ). UnlessParseMemory e (AreNoData o t)) same h))

-- what is the same of the zone rows is the same of the one zone row
same_rows : {T : Type 0} (view : ZoneRow → T) (o : Option ZoneRow) (zone_row : ZoneRow) (r : Option T) → o ≡ Some zone_row → option_map view o ≡ r
    → r ≡ Some (view zone_row)
same_rows view o zone_row r e f = sym f ∙ ap (option_map view) e

pub row_fault : {T : Type 0} (origin : Option DomainName) (t : RecordType) (text : List ℕ) (o : Option ZoneRow) (zone_row : ZoneRow) (cursor : Cursor) (r : Result T ParseError)
    → o ≡ Some zone_row → option_map row_value o ≡ zone_row_of t → option_map row_texts o ≡ texts_of t → tokens_at cursor ≡ zone_tokens text
    → seen_at cursor ≡ seen_at (at_start text) → IfErr r (λ e. (e ≡ parse.Memory) ⊎ RowFault origin zone_row cursor e)
    → IfErr r (λ e. (e ≡ parse.Memory) ⊎ LacksRow t e ⊎ TokensFault origin t text e)
row_fault origin t text o zone_row cursor r e f g starts seen = if_err _ _ r (λ y. or_then (λ fault. inr (record {
  zone_row = zone_row;
  of_type = same_rows row_value o zone_row (zone_row_of t) e f;
  texts = same_rows row_texts o zone_row (texts_of t) e g;
  cursor = cursor;
  starts = starts;
  seen = seen;
  has = fault;
})))

-- ---- why octets are rejected

-- the octets that were read, from their beginning
pub read_why : (cause : DecodeError) (old behind : Reading) (octets : List ℕ) (n : ℕ) (t : RecordType) → old ≡ record { message = octets; index = 0 }
    → n ≡ length octets
    → IsReadError t n old behind cause → OctetsFault octets t (proto_error (decode_error cause))
read_why cause old behind octets n t start all h = inr (record {
  cause = cause;
  behind = behind;
  refused = subst (λ (k : ℕ). IsReadError t k (record { message = octets; index = 0 }) behind cause) all (subst (λ (o : Reading). IsReadError t n o behind cause) start h);
  says = refl;
})

pub unknown_why : (e : ParseError) (t : RecordType) (octets s : List ℕ) (cursor : Cursor) → s ≡ octets → TookAll AreUnknown octets cursor
    → (e ≡ parse.Memory) ⊎ OctetsFault s t e → (e ≡ parse.Memory) ⊎ BehindMarkFault t cursor e
unknown_why e t octets s cursor same took =
    or_then (λ fault. inr (record { octets = octets; took = took; why = inl (subst (λ (o : List ℕ). OctetsFault o t e) same fault) }))

pub pointer_why : (e : ParseError) (t : RecordType) (v : RData) (octets s : List ℕ) (n : ℕ) (cursor : Cursor) → s ≡ octets → n ≡ length octets
    → TookAll AreUnknown octets cursor
    → AreDataOf s t v → has_name (shape t) ≡ true → length (data_octets v) ≢ n → Says (codes "pointer in a domain name of unknown data") e
    → (e ≡ parse.Memory) ⊎ BehindMarkFault t cursor e
pointer_why e t v octets s n cursor same counted took is named other says = inr (inr (record {
  octets = octets;
  took = took;
  why = inr (record {
    says = says;
    value = v;
    is_data = subst (λ (o : List ℕ). AreDataOf o t v) same is;
    other = λ whole. other (whole named ∙ sym counted);
  });
}))

pub given_why : {T : Type 0} (r : Result T ParseError) (origin : Option DomainName) (t : RecordType) (octets s text : List ℕ) → s ≡ octets
    → TookAll (GiveByRow origin (zone_row_of t)) octets (at_start text) → IfErr r (λ e. (e ≡ parse.Memory) ⊎ OctetsFault s t e)
    → IfErr r (λ e. (e ≡ parse.Memory) ⊎ ByRowFault origin t text e)
given_why r origin t octets s text same took = if_err _ _ r
    (λ e. or_then (λ fault. inr (inr (record { octets = octets; took = took; why = subst (λ (o : List ℕ). OctetsFault o t e) same fault }))))

-- ---- a whole text

unknown_from : (t : RecordType) (v : RData) (octets : List ℕ) (tokens rest : List Token) (first : Token) (cursor : Cursor) → tokens ≡ first ∷ rest
    → tokens_at cursor ≡ Ok rest
    → AreUnknownData octets tokens → AreDataOf octets t v → (AreUnknownData octets tokens → IsWhole t octets v) → UnknownIs t v cursor
unknown_from t v octets tokens rest first cursor e divided unknown is whole = record {
  tokens = rest;
  divided = divided;
  octets = octets;
  are = (subst (AreUnknownData octets) e unknown).1;
  is_data = is;
  whole = whole unknown;
}

pub none_behind : (origin : Option DomainName) (t : RecordType) (text : List ℕ) (cursor : Cursor) → IsBehindMark text cursor → UnknownIsNone t cursor
    → GivesNone origin t text
none_behind origin t text cursor b none = record {
  none = λ v g.
      let k = token_ok b.first (tokens_at cursor) g.gives.tokens (sym b.divided ∙ g.gives.divided) in
      by_form v g k.0 k.1 k.2 g.gives.give;
} where
  by_form : (v : RData) (g : GivesValue origin t text v) (rest : List Token) → tokens_at cursor ≡ Ok rest → g.gives.tokens ≡ b.first ∷ rest
      → TokensGive origin t g.octets g.gives.tokens → ⊥
  by_form v g rest divided e (inl unknown) = none.none v (unknown_from t v g.octets g.gives.tokens rest b.first cursor e divided unknown g.is_data g.whole)
  by_form v g rest divided e (inr own) = (subst AreUnmarked e own.0) b.mark

pub row_gives : (origin : Option DomainName) (t : RecordType) (text : List ℕ) (v : RData) → HasNoMark text → RowIs origin t text v → GivesValue origin t text v
row_gives origin t text v h u = record {
  octets = u.octets;
  gives = record { tokens = u.tokens; divided = u.divided; give = inr (h.unmarked u.tokens u.divided, u.give) };
  is_data = u.is_data;
  whole = λ unknown. absurd (not_both u.octets u.tokens unknown (h.unmarked u.tokens u.divided));
}

pub none_own : (origin : Option DomainName) (t : RecordType) (text : List ℕ) → HasNoMark text → RowIsNone origin t text → GivesNone origin t text
none_own origin t text h none = record { none = λ v g. by_form v g g.gives.give } where
  by_form : (v : RData) (g : GivesValue origin t text v) → TokensGive origin t g.octets g.gives.tokens → ⊥
  by_form v g (inl unknown) = not_both g.octets g.gives.tokens unknown (h.unmarked g.gives.tokens g.gives.divided)
  by_form v g (inr own) = none.none v (record { tokens = g.gives.tokens; divided = g.gives.divided; octets = g.octets; give = own.1; is_data = g.is_data })
