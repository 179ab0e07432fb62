-- Tokens of each type.
use Rattle.dns_rows.specs.Table.{kinds_of}
use Rattle.std.proofs.Common.{◌↔◌, ◌≡◌, ◌≢◌, ℕ, List, [], ◌∷◌, Option, Some, None, Result, Ok, Err, IfErr, ◌⊎◌, inl, inr, refl, sym, ap, subst, map, length, arith, ◌∙◌}
use Rattle.std.specs.{Cow.cow_str_bytes, declared.vec.IntoIter.IntoIter, declared.borrow.CowStr.CowStr, declared.alloc.Global.Global, Result.IsErrAnd}
use Rattle.std.specs.{Result.IfOk, Result.result_map_both, Vec.Iter.into_iter_steps, Vec.Iter.into_iter_items, Vec.Iter.into_iter_len, Vec.Iter.into_iter_deque}
use Rattle.dns_types.specs.{declared.record_type.RecordType.RecordType, declared.error.ParseError.ParseError}
use Rattle.dns_types.specs.declared.record_type.RecordType.TheVariants as types
use Rattle.dns_types.specs.declared.error.ParseError.TheVariants as parse
use Rattle.dns_tokens.specs.{TextWords.TextWords, TextWords.NoTextWords, Plain.ArePlain, Plain.GivesWord}
use Rattle.dns_tokens.specs.{Taking.HoldsBehind, Taking.HoldsOfTokens, Forms.TokenRow, Forms.token, Printed.cut}
use Rattle.dns_tokens.specs.Reads.{UnlessParseMemory, Decides, TookTokens, RefusedTokens, ReadsTokenRow}
use Rattle.dns_fields.specs.{Labels.DomainName, Fields.Values}
use Rattle.dns_rdata_service.specs.{SVCB.svcb_shape, SVCB.svcb_fields, declared.svcb.SVCB.SVCB, TokenRows.AreTokensOf, TokenRows.svcb_tokens as service_tokens}
use Rattle.dns_tokens.proofs.{Printed.straight_back, Steps.holds_map, Steps.holds_all, Steps.unless_map}
use Rattle.dns_rdata_base.specs.{NameRecords.name_shape, NameRecords.name_fields, NameRecords.mx_facts, NameRecords.srv_facts, A.a_fields, AAAA.aaaa_fields}
use Rattle.dns_rdata_base.specs.SOA.{soa_fields}
use Rattle.dns_rdata_certs.specs.{SSHFP.sshfp_fields, TLSA.tlsa_fields}
use Rattle.dns_rdata_base.proofs.TokensBack.{a_back, aaaa_back, soa_back}
use Rattle.dns_rdata_certs.proofs.TokensBack.{sshfp_back, tlsa_back}
use Rattle.dns_rdata.specs.{declared.record_data.RData.RData, Data.shape, Data.IsValue, Data.type_of, Texts.text_of}
use Rattle.dns_rdata.specs.DataTokens.{StandIn, AreSvcbTokens, HasSvcbTokens, HasHttpsTokens, HasNoTokens, AreDataTokens, TookDataTokens, RefusedDataTokens}
use Rattle.dns_rdata.specs.DataTokens.{ReadsDataTokens, AnswersDataTokens, ReadsDataTextAt, IsPrinted, PrintsBack}
use Rattle.dns_rdata.specs.declared.record_data.RData.TheVariants as rdata
use Rattle.dns_rdata_service.proofs.ItemLists.{unless_is}
use Rattle.dns_rdata.proofs.DataReads.{IsNone}

-- tokens of a service give its fields
own_stands : (x : SVCB) (tokens : List (List ℕ)) → AreSvcbTokens x tokens → service_tokens.stand (svcb_fields x) tokens
unfolding token
own_stands x [] d = d
own_stands x (a ∷ []) d = (d.0, d.1)
own_stands x (a ∷ b ∷ tokens) d = (d.0, (d.1.0, (x.svc_params, d.1.1, refl)))

pub no_svcb : (tokens : List (List ℕ)) → ((vs : Values svcb_shape) → service_tokens.stand vs tokens → ⊥) → (v : RData) → HasSvcbTokens v tokens → ⊥
no_svcb tokens other (rdata.SVCB x) d = other (svcb_fields x) (own_stands x tokens d)
no_svcb tokens other v d = d

pub no_https : (tokens : List (List ℕ)) → ((vs : Values svcb_shape) → service_tokens.stand vs tokens → ⊥) → (v : RData) → HasHttpsTokens v tokens → ⊥
no_https tokens other (rdata.HTTPS x) d = other (svcb_fields x.0) (own_stands x.0 tokens d)
no_https tokens other v d = d

-- the types that are read from tokens
abbrev pub token_types : List RecordType
token_types =
    types.A ∷ types.AAAA ∷ types.ANAME ∷ types.CAA ∷ types.CERT ∷ types.CNAME ∷ types.CSYNC ∷ types.HINFO ∷ types.HTTPS ∷ types.MX ∷ types.NAPTR ∷ types.NS
    ∷ types.OPENPGPKEY ∷ types.PTR ∷ types.SMIMEA ∷ types.SOA ∷ types.SRV ∷ types.SSHFP ∷ types.SVCB ∷ types.TLSA ∷ types.TXT ∷ types.ZERO ∷ []

-- every other type is not
pub has_no_tokens : (t : RecordType) → IsNone t token_types → HasNoTokens t
has_no_tokens types.A none = absurd (none.0 refl)
has_no_tokens t none = grind arith

-- types that are not read from tokens
no_tokens : (origin : Option DomainName) (t : RecordType) → HasNoTokens t → (v : RData) (tokens : List (List ℕ)) → AreDataTokens origin t v tokens → ⊥
no_tokens origin types.A h v tokens w = absurd h
no_tokens origin t h v tokens w = absurd (search)

module _ {S I : Type 0} {gives : I → Option S → I → Type 0} {text : S → List ℕ} where
  -- tokens of a type's token row give its value
  pub data_took : {s : I} (origin : Option DomainName) (t : RecordType) (token_row : TokenRow (shape t)) (vs : Values (shape t)) (v : RData)
      → ((tokens : List (List ℕ)) → StandIn t token_row v tokens → AreDataTokens origin t v tokens) → IsValue t vs v → TookTokens gives text token_row vs s
      → TookDataTokens gives text origin t v s
  data_took origin t token_row vs v by_token_row value f = record { type = value.type; tokens = holds_map (λ tokens. AreDataTokens origin t v tokens) (λ tokens stand. by_token_row tokens (record { values = vs; stand = stand; value = value })) f.tokens }

  -- and tokens without fields by the token row give no value of the type
  pub data_refused : {e : ParseError} {s : I} (origin : Option DomainName) (t : RecordType) (token_row : TokenRow (shape t))
      → ((v : RData) (tokens : List (List ℕ)) → AreDataTokens origin t v tokens → StandIn t token_row v tokens) → RefusedTokens gives text e token_row s
      → RefusedDataTokens gives text e origin t s
  data_refused {e} origin t token_row by_token_row r = record { none = unless_map e _ _ (λ none. holds_map (λ tokens. (v : RData) → AreDataTokens origin t v tokens → ⊥) (λ tokens other v d. let st = by_token_row v tokens d in other st.values st.stand) none) r.none }

  pub zero_took : {s : I} (origin : Option DomainName) → TookDataTokens gives text origin types.ZERO rdata.ZERO s
  zero_took origin = record { type = refl; tokens = holds_all (λ tokens. AreDataTokens origin types.ZERO rdata.ZERO tokens) (λ tokens. record { values = tt; stand = tt; value = record { type = refl; fields = refl; can_be_read = tt } }) }

  -- what is returned for a type that is read from tokens
  pub answers : {r : Result RData ParseError} {s : I} {origin : Option DomainName} (t : RecordType) → (HasNoTokens t → ⊥)
      → ReadsDataTokens gives text origin t r s → AnswersDataTokens gives text origin t r s
  answers t has reads = record { reads = reads; unsupported = λ h. absurd (has h) }

  -- what is returned by a service's own relation
  pub by_own : {X : Type 0} {s : I} {q : Result RData ParseError} (r : Result X ParseError) (fields : X → Values svcb_shape) (origin : Option DomainName) (t : RecordType) (f : X → RData) (service : X → SVCB)
      → (HasNoTokens t → ⊥) → ((x : X) → type_of (f x) ≡ t)
      → ((x : X) (tokens : List (List ℕ)) → AreSvcbTokens (service x) tokens → AreDataTokens origin t (f x) tokens)
      → ((tokens : List (List ℕ)) → ((vs : Values svcb_shape) → service_tokens.stand vs tokens → ⊥) → (v : RData) → AreDataTokens origin t v tokens → ⊥)
      → IfOk r (λ x. AreTokensOf gives text (service x) s) → ReadsTokenRow gives text service_tokens fields r s → q ≡ result_map_both f (λ e. e) r
      → AnswersDataTokens gives text origin t q s
  by_own (Ok x) fields origin t f service has type are none own reads e =
      rw e (answers t has (record { type = type x; tokens = holds_map (λ tokens. AreDataTokens origin t (f x) tokens) (are x) own.tokens }))
  by_own (Err y) fields origin t f service has type are none own reads e =
      rw e (answers t has (record { none = unless_map y _ _ (holds_map (λ tokens. (v : RData) → AreDataTokens origin t v tokens → ⊥) none) reads.none }))

  -- what is returned by a token row, as the value that holds what was read
  pub by_token_row : {X : Type 0} {s : I} {r : Result X ParseError} {q : Result RData ParseError} (origin : Option DomainName) (t : RecordType) (token_row : TokenRow (shape t)) (f : X → RData) (fields : X → Values (shape t)) → (HasNoTokens t → ⊥)
      → ((v : RData) (tokens : List (List ℕ)) → StandIn t token_row v tokens ↔ AreDataTokens origin t v tokens) → ReadsTokenRow gives text token_row fields r s
      → ((x : X) → r ≡ Ok x → IsValue t (fields x) (f x)) → q ≡ result_map_both f (λ e. e) r → AnswersDataTokens gives text origin t q s
  by_token_row {r = Ok x} origin t token_row f fields has same reads value e =
      rw e (answers t has (data_took origin t token_row (fields x) (f x) (λ tokens. (same (f x) tokens).0) (value x refl) reads))
  by_token_row {r = Err y} origin t token_row f fields has same reads value e =
      rw e (answers t has (data_refused origin t token_row (λ v tokens. (same v tokens).1) reads))

  -- and for any other type
  pub answers_no_tokens : {s : I} (origin : Option DomainName) (t : RecordType) → HasNoTokens t
      → AnswersDataTokens gives text origin t (Err (parse.UnsupportedRecordType t)) s
  answers_no_tokens origin t none = record {
    reads = record { none = holds_all (λ tokens. (v : RData) → AreDataTokens origin t v tokens → ⊥) (λ tokens v d. no_tokens origin t none v tokens d) };
    unsupported = λ h. refl;
  }

-- ---- printed values

back_of : (origin : Option DomainName) (v : RData) → IsPrinted v → AreDataTokens origin (type_of v) v (cut (text_of v))
back_of origin (rdata.A x) h = record { values = a_fields x; stand = a_back.back x h; value = record { type = refl; fields = refl; can_be_read = tt } }
back_of origin (rdata.AAAA x) h = record { values = aaaa_fields x; stand = aaaa_back.back x h; value = record { type = refl; fields = refl; can_be_read = tt } }
back_of origin (rdata.ANAME x) h = record { values = name_fields x.0; stand = straight_back origin name_shape (name_fields x.0) (h, tt); value = record { type = refl; fields = refl; can_be_read = tt } }
back_of origin (rdata.CNAME x) h = record { values = name_fields x.0; stand = straight_back origin name_shape (name_fields x.0) (h, tt); value = record { type = refl; fields = refl; can_be_read = tt } }
back_of origin (rdata.NS x) h = record { values = name_fields x.0; stand = straight_back origin name_shape (name_fields x.0) (h, tt); value = record { type = refl; fields = refl; can_be_read = tt } }
back_of origin (rdata.PTR x) h = record { values = name_fields x.0; stand = straight_back origin name_shape (name_fields x.0) (h, tt); value = record { type = refl; fields = refl; can_be_read = tt } }
back_of origin (rdata.MX x) h = record { values = mx_facts.fields x; stand = straight_back origin (kinds_of mx_facts.row) (mx_facts.fields x) h; value = record { type = refl; fields = refl; can_be_read = tt } }
back_of origin (rdata.SMIMEA x) h =
    record { values = tlsa_fields x.0; stand = tlsa_back.back x.0 h; value = record { type = refl; fields = refl; can_be_read = h.enums } }
back_of origin (rdata.SOA x) h =
    record { values = soa_fields x; stand = (soa_back origin).back x h; value = record { type = refl; fields = refl; can_be_read = h.seconds } }
back_of origin (rdata.SRV x) h = record { values = srv_facts.fields x; stand = straight_back origin (kinds_of srv_facts.row) (srv_facts.fields x) h; value = record { type = refl; fields = refl; can_be_read = tt } }
back_of origin (rdata.SSHFP x) h =
    record { values = sshfp_fields x; stand = sshfp_back.back x h; value = record { type = refl; fields = refl; can_be_read = h.enums } }
back_of origin (rdata.TLSA x) h =
    record { values = tlsa_fields x; stand = tlsa_back.back x h; value = record { type = refl; fields = refl; can_be_read = h.enums } }
back_of origin v h = absurd h

pub data_back : (origin : Option DomainName) (t : RecordType) → PrintsBack origin t
data_back origin t = record { back = λ v e h. subst (λ (u : RecordType). AreDataTokens origin u v (cut (text_of v))) e (back_of origin v h) }

-- ---- a whole text

no_items : {A : Type 0} (xs : List A) → 0 ≡ length xs → xs ≡ []
no_items [] e = refl
no_items (x ∷ xs) e = absurd (omega (arith, e))

ended : (s : IntoIter (CowStr Global) Global) → into_iter_len s ≡ 0 → into_iter_items s ≡ []
ended s e = no_items (into_iter_items s) (sym e ∙ (into_iter_deque s).ok.0)

-- An iterator of which it is known which tokens are left.
pub record Exhausts {S I : Type 0} (gives : I → Option S → I → Type 0) (text : S → List ℕ) (Left : List (List ℕ) → I → Type 0) : Type 0 where
  pub one_more : (s t : I) (x : S) (words : List (List ℕ)) → gives s (Some x) t → Left words s
      → (later : List (List ℕ)) × (words ≡ text x ∷ later) × Left later t
  pub over : (s t : I) (words : List (List ℕ)) → gives s None t → Left words s → words ≡ []

-- a vector's
abbrev AreItems : List (List ℕ) → IntoIter (CowStr Global) Global → Type 0
AreItems words s = map cow_str_bytes (into_iter_items s) ≡ words

pub items_left : Exhausts into_iter_steps cow_str_bytes AreItems
items_left = record {
  one_more = λ s t x words g e. (map cow_str_bytes (into_iter_items t), sym e ∙ ap (map cow_str_bytes) g.0, refl);
  over = λ s t words g e. sym e ∙ ap (map cow_str_bytes) (ended s g.0);
}

-- a plain text's
pub words_left : Exhausts GivesWord (λ x. x.now) (λ words s. ArePlain words s.rest.now)
words_left = record { one_more = λ s t x words g l. g.only words tt l; over = λ s t words g l. g words l }

module _ {S I : Type 0} {gives : I → Option S → I → Type 0} {text : S → List ℕ} {Left : List (List ℕ) → I → Type 0} (exhausts : Exhausts gives text Left) where
  of_list : (xs : List S) (s : I) (tokens : List (List ℕ)) (P : List (List ℕ) → Type 0) → Left tokens s → HoldsBehind gives text xs s P → P tokens
  of_list [] s tokens P l (inl all) = all tokens
  of_list [] s tokens P l (inr h) = subst P (sym (exhausts.over s h.0 tokens h.1 l)) h.2
  of_list (x ∷ xs) s tokens P l h =
      let more = exhausts.one_more s h.0 x tokens h.1 l in
      subst P (sym more.1) (of_list xs h.0 more.0 (λ later. P (text x ∷ later)) more.2 h.2)

  holds_of : (s : I) (tokens : List (List ℕ)) (P : List (List ℕ) → Type 0) → Left tokens s → HoldsOfTokens gives text s P → P tokens
  holds_of s tokens P l h = of_list h.taken s tokens P l h.holds

  pub each_read : (origin : Option DomainName) (t : RecordType) (tokens : List (List ℕ)) (s : I) (r : Result RData ParseError) → Left tokens s
      → ReadsDataTokens gives text origin t r s → Decides (λ v. AreDataTokens origin t v tokens) (λ v. v) r
  each_read origin t tokens s (Ok v) l h = holds_of s tokens (λ tokens. AreDataTokens origin t v tokens) l h.tokens
  each_read origin t tokens s (Err y) l h =
      unless_map y _ _ (λ none. record { none = holds_of s tokens (λ tokens. (v : RData) → AreDataTokens origin t v tokens → ⊥) l none }) h.none

pub text_read : (origin : Option DomainName) (t : RecordType) (text : List ℕ) (tokens : List (List ℕ)) (r : Result RData ParseError) → TextWords tokens text
    → Decides (λ v. AreDataTokens origin t v tokens) (λ v. v) r → ReadsDataTextAt origin t r text
text_read origin t text tokens (Ok v) is h = record { tokens = tokens; of_text = is; give = h }
text_read origin t text tokens (Err y) is h = unless_map y _ _ (λ none. inr (record { tokens = tokens; of_text = is; none = none.none })) h

pub no_tokens_read : (origin : Option DomainName) (t : RecordType) (text : List ℕ) (e : ParseError) (r : Result RData ParseError) → IsErrAnd r (λ y. y ≡ e)
    → (e ≢ parse.Memory → NoTextWords text)
    → ReadsDataTextAt origin t r text
no_tokens_read origin t text e (Ok v) h none = elim h [ ]
no_tokens_read origin t text e (Err y) h none = rw h (unless_is e _ (λ n. inl (none n)))

pub refused_early : (t : RecordType) (text : List ℕ) (e : ParseError) (r : Result RData ParseError) → IsErrAnd r (λ y. y ≡ e)
    → (e ≢ parse.Memory → NoTextWords text)
    → IfErr r (λ y. UnlessParseMemory y ((y ≡ parse.UnsupportedRecordType t) ⊎ NoTextWords text))
refused_early t text e (Ok v) h none = elim h [ ]
refused_early t text e (Err y) h none = rw h (unless_is e _ (λ n. inr (none n)))

pub refused_by_name : (t : RecordType) (text : List ℕ) (r : Result RData ParseError) → r ≡ Err (parse.UnsupportedRecordType t)
    → IfErr r (λ y. UnlessParseMemory y ((y ≡ parse.UnsupportedRecordType t) ⊎ NoTextWords text))
refused_by_name t text r e = rw e (inl refl)
