-- Remaining tokens, one by one.
use Rattle.std.proofs.Common.{◌≡◌, ◌⊎◌, ℕ, length, true, false, List, [], ◌∷◌, ◌++◌, Result, Ok, Err, refl, sym, ◌∙◌, ap, subst, append_assoc, inl, inr, codes}
use Rattle.std.proofs.{lemmas.List.append-nil, lemmas.Grind.flat_map-append}
use Rattle.std.specs.List.{AllZip}
use Rattle.dns_types.specs.declared.error.ParseError.{ParseError}
use Rattle.dns_types.specs.declared.error.ParseError.TheVariants as parse
use Rattle.dns_tokens.specs.{Reads.UnlessParseMemory, declared.field.Field.Field}
use Rattle.dns_zone_tokens.specs.{FieldTexts.field_texts, FieldTexts.number_called, Forms.number, ZoneReads.FirstHas, ZoneReads.NoFirst, ZoneReads.WhyNoField}
use Rattle.dns_zone_tokens.specs.{Errors.Says, Errors.undivided_text, Remaining.UnknownFault, declared.tokens_error.TokensError.TokensError}
use Rattle.dns_zone_tokens.specs.Remaining.{AllBare, AmongFault, NoneHas, QuotesFault, joined, AreJoined, AreUnknown, NoneOfAll, with_tokens}
use Rattle.dns_zone_tokens.specs.Tokens.{Token, Cursor, tokens_at, seen_at, with_token}
use Rattle.dns_tokens.proofs.Steps.{unless_map}

-- ---- lists of tokens

pub tokens_more : (tokens front : List Token) (behind : Result (List Token) TokensError)
    → with_tokens (tokens ++ front) behind ≡ with_tokens tokens (with_tokens front behind)
tokens_more [] front behind = refl
tokens_more (first ∷ tokens) front behind = ap (with_token first) (tokens_more tokens front behind)

pub tokens_ok : (tokens : List Token) → with_tokens tokens (Ok []) ≡ Ok tokens
tokens_ok [] = refl
tokens_ok (token ∷ tokens) = ap (with_token token) (tokens_ok tokens)

tokens_err : (tokens : List Token) (e : TokensError) → with_tokens tokens (Err e) ≡ Err e
tokens_err [] e = refl
tokens_err (token ∷ tokens) e = ap (with_token token) (tokens_err tokens e)

pub token_ok : (token : Token) (behind : Result (List Token) TokensError) (all : List Token) → with_token token behind ≡ Ok all
    → (rest : List Token) × (behind ≡ Ok rest) × (all ≡ token ∷ rest)
token_ok token (Ok rest) all e = let same : token ∷ rest ≡ all = cc in (rest, refl, sym same)
token_ok token (Err why) all e = absurd (cc)

-- a token among others
split_ok : (front : List Token) (token : Token) (behind : Result (List Token) TokensError) (all : List Token)
    → with_tokens front (with_token token behind) ≡ Ok all
    → (rest : List Token) × (all ≡ front ++ token ∷ rest)
split_ok [] token behind all e = let k = token_ok token behind all e in (k.0, k.2)
split_ok (first ∷ front) token behind all e =
    let k = token_ok first (with_tokens front (with_token token behind)) all e in
    let m = split_ok front token behind k.0 k.1 in
    (m.0, k.2 ∙ ap (λ (x : List Token). first ∷ x) m.1)

-- what belongs to one of the elements
pub one_of_both : {X Y : Type 0} (R : X → Y → Type 0) (xs : List X) (x : X) (more : List X) (ys : List Y) → AllZip R (xs ++ x ∷ more) ys → (y : Y) × R x y
one_of_both R [] x more [] h = absurd h
one_of_both R [] x more (y ∷ ys) h = (y, h.0)
one_of_both R (a ∷ xs) x more [] h = absurd h
one_of_both R (a ∷ xs) x more (y ∷ ys) h = one_of_both R xs x more ys h.1

-- ---- tokens that are taken one by one

-- so many tokens were taken, of which this holds
pub record TakenSoFar (is : List Token → Type 0) (old new : Cursor) : Type 0 where
  pub tokens : List Token
  pub are : is tokens
  pub behind : tokens_at old ≡ with_tokens tokens (tokens_at new)
  pub seen : seen_at old ≡ tokens ++ seen_at new

pub none_taken : {is : List Token → Type 0} (cursor : Cursor) → is [] → TakenSoFar is cursor cursor
none_taken cursor h = record { tokens = []; are = h; behind = refl; seen = refl }

module _ {is : List Token → Type 0} {old now : Cursor} (so : TakenSoFar is old now) where
  pub one_taken : {more : List Token → Type 0} (token : Token) (new : Cursor) → tokens_at now ≡ with_token token (tokens_at new)
      → seen_at now ≡ token ∷ seen_at new → ((tokens : List Token) → is tokens → more (tokens ++ token ∷ [])) → TakenSoFar more old new
  one_taken token new first seen then = record {
    tokens = so.tokens ++ token ∷ [];
    are = then so.tokens so.are;
    behind = so.behind ∙ ap (with_tokens so.tokens) first ∙ sym (tokens_more so.tokens (token ∷ []) (tokens_at new));
    seen = so.seen ∙ ap (λ (l : List Token). so.tokens ++ l) seen ∙ sym (append_assoc so.tokens (token ∷ []) (seen_at new));
  }

  pub all_taken : tokens_at now ≡ Ok [] → tokens_at old ≡ Ok so.tokens
  all_taken end = so.behind ∙ ap (with_tokens so.tokens) end ∙ tokens_ok so.tokens

  pub undivided : {e : TokensError} → tokens_at now ≡ Err e → tokens_at old ≡ Err e
  undivided {e} end = so.behind ∙ ap (with_tokens so.tokens) end ∙ tokens_err so.tokens e

  -- where the text cannot be divided there are no values
  pub undivided_none : {V : Type 0} {value : V → List Token → Type 0} {e : TokensError} → tokens_at now ≡ Err e → NoneOfAll value old
  undivided_none {e = e} end =
      record { none = λ v tokens divided _. let both : Ok tokens ≡ Err e = sym divided ∙ undivided end in absurd (cc) }

  pub undivided_why : {fault : Token → ParseError → Type 0} {why : TokensError} {e : ParseError} → tokens_at now ≡ Err why → seen_at now ≡ []
      → ((tokens : List Token) → is tokens → NoneHas fault tokens) → Says (undivided_text why) e → AmongFault fault old e
  undivided_why {fault} {why} end none before says =
      let all : seen_at old ≡ so.tokens = so.seen ∙ ap (λ (l : List Token). so.tokens ++ l) none ∙ append-nil so.tokens in
      inl (why, undivided end, says, subst (NoneHas fault) (sym all) (before so.tokens so.are))

  -- nor where there is a token that no value has
  pub none_among : {V : Type 0} {value : V → List Token → Type 0} (token : Token) (new : Cursor) → tokens_at now ≡ with_token token (tokens_at new)
      → ((front rest : List Token) (v : V) → value v (front ++ token ∷ rest) → ⊥) → NoneOfAll value old
  none_among {value = value} token new first none = record {
    none = λ v tokens divided given.
        let m = split_ok so.tokens token (tokens_at new) tokens (sym (so.behind ∙ ap (with_tokens so.tokens) first) ∙ divided) in
        none so.tokens m.0 v (subst (value v) m.1 given);
  }

  pub fault_among : {fault : Token → ParseError → Type 0} (token : Token) (new : Cursor) {e : ParseError} → seen_at now ≡ token ∷ seen_at new
      → ((tokens : List Token) → is tokens → NoneHas fault tokens) → fault token e → AmongFault fault old e
  fault_among token new seen before has = inr (record {
    front = so.tokens;
    token = token;
    others = seen_at new;
    seen = so.seen ∙ ap (λ (l : List Token). so.tokens ++ l) seen;
    before = before so.tokens so.are;
    has = has;
  })

-- ---- their octets, none in quotes

pub bare_more : (tokens : List Token) (token : Token) → AllBare tokens → token.quoted ≡ false → AllBare (tokens ++ token ∷ [])
bare_more [] token h e = (e, tt)
bare_more (first ∷ tokens) token h e = (h.0, bare_more tokens token h.1 e)

pub joined_more : (tokens : List Token) (token : Token) → joined (tokens ++ token ∷ []) ≡ joined tokens ++ token.octets
joined_more tokens token = flat_map-append (λ (w : Token). w.octets) tokens (token ∷ []) ∙ ap (λ (x : List ℕ). joined tokens ++ x) (append-nil token.octets)

pub one_joined : {octets more : List ℕ} (token : Token) → token.quoted ≡ false → more ≡ octets ++ token.octets → (tokens : List Token) → AreJoined octets tokens
    → AreJoined more (tokens ++ token ∷ [])
one_joined token bare e tokens h = record {
  bare = bare_more tokens token h.bare bare;
  same = e ∙ ap (λ (x : List ℕ). x ++ token.octets) h.same ∙ sym (joined_more tokens token);
}

-- so none has the fault of quotes
pub none_quoted : (wrong : ParseError) (tokens : List Token) → AllBare tokens → NoneHas (QuotesFault wrong) tokens
none_quoted wrong [] bare = tt
none_quoted wrong (token ∷ tokens) bare = (
  λ e quotes. let both : true ≡ false = sym quotes.1 ∙ bare.0 in absurd (cc),
  none_quoted wrong tokens bare.1,
)

-- a token in quotes is not among them
pub not_joined : (token : Token) → token.quoted ≡ true → (front rest : List Token) (v : List ℕ) → AreJoined v (front ++ token ∷ rest) → ⊥
not_joined token quoted front rest v h = bare_among front h.bare where
  bare_among : (tokens : List Token) → AllBare (tokens ++ token ∷ rest) → ⊥
  bare_among [] bare = let both : true ≡ false = sym quoted ∙ bare.0 in absurd (cc)
  bare_among (first ∷ tokens) bare = bare_among tokens bare.1

-- ---- unknown data

has_length : (v : List ℕ) (tokens : List Token) → AreUnknown v tokens → FirstHas (number 2) (length v) tokens
has_length v [] is = is
has_length v (first ∷ tokens) is = (is.0, is.1)

pub unknown_no_length : (e : ParseError) (old : Cursor) → UnlessParseMemory e (NoFirst (number 2) old) → UnlessParseMemory e (NoneOfAll AreUnknown old)
unknown_no_length e old h = unless_map e (NoFirst (number 2) old) (NoneOfAll AreUnknown old)
    (λ no. record { none = λ v tokens divided is. no.none (length v) tokens divided (has_length v tokens is) }) h

-- why there is no length
pub length_why : (e : ParseError) (old : Cursor) (field : Field) → WhyNoField (number 2) field old e
    → field_texts field ≡ number_called (codes "length of unknown data") → (e ≡ parse.Memory) ⊎ UnknownFault old e
length_why e old field why called = inr (inl (record { field = field; called = called; why = why }))
