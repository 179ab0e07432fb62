-- All parameters, one by one.
use Rattle.std.proofs.Common.{◌≡◌, ℕ, zero, suc, ◌+◌, ◌≤◌, List, [], ◌∷◌, ◌++◌, map, get_or, Result, Ok, refl, sym, ◌∙◌, ap, subst, arith, add-one, append_assoc}
use Rattle.std.specs.List.Sorted.{IsPermutation, IsNonDecreasingBy, IsStrictlyIncreasing}
use Rattle.std.proofs.{lemmas.List.append-nil, lemmas.List.map-append, lemmas.List.Sorted.IsPermutation-map, lemmas.Simd.map-map}
use Rattle.dns_fields.specs.Tlvs.{tlvs, Rising}
use Rattle.dns_types.specs.declared.error.ParseError.{ParseError}
use Rattle.dns_tokens.specs.Reads.{UnlessParseMemory, HoldsOfNone}
use Rattle.dns_zone_tokens.specs.{Tokens.Token, Tokens.Cursor, Tokens.tokens_at, Tokens.with_token, declared.tokens_error.TokensError.TokensError, Errors.Says}
use Rattle.dns_zone_tokens.specs.Remaining.{with_tokens, NoneOfAll, TookAll, PutAll}
use Rattle.dns_tokens.proofs.Steps.{unless_map}
use Rattle.dns_zone_tokens.proofs.RemainingSteps.{tokens_more, tokens_ok}
use Rattle.dns_zone_rows.specs.{ParameterFaults.KeyTwice, ParameterFaults.IsFirstTwice, ParameterFaults.twice_text, ParameterSteps.AreLeft, ParameterSteps.IsFirstFall, ParameterKeys.IsKeyName, ParameterValues.IsValue}
use Rattle.dns_zone_rows.specs.{ParameterSteps.TookWritten, ParameterSteps.TookParameter, ParameterSteps.TookParameters, ParameterViews.parameter_value, declared.parameters.parameter.Parameter.Parameter as CodeParameter}
use Rattle.dns_zone_rows.specs.Parameters.{Parameter, IsWritten, HasParameter, IsParameter, AreWritten, AreParameters}
use Rattle.dns_rdata_service.specs.declared.svcb.key.SvcParamKey.{SvcParamKey}
use Rattle.dns_zone_rows.proofs.{KeyNames.key_once, OneReading.written_once, Rises.Climbs, Rises.climbs_rising, Rises.order_once, Rises.rising_from, Rises.rising_to}

-- ---- the next parameter

-- what is written so is this parameter
pub took_parameter : (name value : List ℕ) (p : Parameter) (old new : Cursor) → TookWritten name value old new → HasParameter name value p
    → TookParameter p old new
took_parameter name value p old new took has = record {
  front = took.front;
  divided = took.divided;
  is = record { name = name; value = value; written = took.written; has = has };
  only = λ all tokens divided written. (took.only all tokens divided written).2;
}

-- a value that is none of the key is none of the name
pub no_value : (e : ParseError) (key : SvcParamKey) (name value : List ℕ) → IsKeyName key name → UnlessParseMemory e (HoldsOfNone (IsValue key value))
    → UnlessParseMemory e (HoldsOfNone (HasParameter name value))
no_value e key name value named none = unless_map e (HoldsOfNone (IsValue key value)) (HoldsOfNone (HasParameter name value))
    (λ h. record { none = λ p has. h.none p.1 (subst (λ (k : SvcParamKey). IsValue k value p.1) (key_once has.key key name has.named named) has.octets) }) none

-- what is written so is no parameter
pub no_parameter : (e : ParseError) (name value : List ℕ) (old new : Cursor) → TookWritten name value old new
    → UnlessParseMemory e (HoldsOfNone (HasParameter name value))
    → UnlessParseMemory e (NoneOfAll AreWritten old)
no_parameter e name value old new took none = unless_map e (HoldsOfNone (HasParameter name value)) (NoneOfAll AreWritten old)
    (λ h. record { none = λ ps tokens divided written. let b = took.only ps tokens divided written in h.none b.0 b.1 }) none

-- ---- all of them

-- so many tokens were taken, and are these parameters
pub record ParametersSoFar (ps : List Parameter) (old new : Cursor) : Type 0 where
  pub tokens : List Token
  pub divided : tokens_at old ≡ with_tokens tokens (tokens_at new)
  pub written : AreWritten ps tokens
  pub only : (all : List Parameter) (tokens : List Token) → tokens_at old ≡ Ok tokens → AreWritten all tokens → AreLeft new

written_more : (ps : List Parameter) (tokens : List Token) (p : Parameter) (front : List Token) → AreWritten ps tokens → IsParameter p front
    → AreWritten (ps ++ p ∷ []) (tokens ++ front)
written_more [] tokens p front none is = (front, [], ap (λ (x : List Token). x ++ front) none ∙ sym (append-nil front), is, refl)
written_more (q ∷ ps) tokens p front h is = (
  h.0,
  h.1 ++ front,
  ap (λ (x : List Token). x ++ front) h.2 ∙ append_assoc h.0 h.1 front,
  h.3,
  written_more ps h.1 p front h.4 is,
)

pub one_parameter : (ps more : List Parameter) (p : Parameter) (old now new : Cursor) → ParametersSoFar ps old now → TookParameter p now new
    → more ≡ ps ++ p ∷ [] → ParametersSoFar more old new
one_parameter ps more p old now new so took e = subst (λ (x : List Parameter). ParametersSoFar x old new) (sym e) (record {
  tokens = so.tokens ++ took.front;
  divided = so.divided ∙ ap (with_tokens so.tokens) took.divided ∙ sym (tokens_more so.tokens took.front (tokens_at new));
  written = written_more ps so.tokens p took.front so.written took.is;
  only = λ all tokens divided written. let l = so.only all tokens divided written in took.only l.others l.tokens l.divided l.written;
})

pub all_taken : (ps : List Parameter) (old now : Cursor) → ParametersSoFar ps old now → tokens_at now ≡ Ok [] → TookParameters ps old
all_taken ps old now so end = record {
  tokens = so.tokens;
  divided = so.divided ∙ ap (with_tokens so.tokens) end ∙ tokens_ok so.tokens;
  written = so.written;
}

-- ---- their octets

numbers_of_values : (xs : List CodeParameter) → map (λ p. p.0) (map parameter_value xs) ≡ map (λ x. x.number) xs
numbers_of_values xs = map-map (λ (p : Parameter). p.0) parameter_value xs

climbs_by : (xs : List CodeParameter) → IsNonDecreasingBy (λ x. x.number) xs → Climbs (map (λ x. x.number) xs)
climbs_by [] h k lt = absurd (omega arith)
climbs_by (x ∷ []) h k lt = absurd (omega arith)
climbs_by (x ∷ y ∷ xs) h zero lt = h 0 1 x (omega arith) (omega arith)
climbs_by (x ∷ y ∷ xs) h (suc k) lt = climbs_by (y ∷ xs) (λ i j d le lt. h (suc i) (suc j) d (omega arith) (omega arith)) k (omega arith)

pub not_written : (e : ParseError) (cursor : Cursor) → UnlessParseMemory e (NoneOfAll AreWritten cursor) → UnlessParseMemory e (NoneOfAll AreParameters cursor)
not_written e cursor none = unless_map e (NoneOfAll AreWritten cursor) (NoneOfAll AreParameters cursor)
    (λ h. record { none = λ octets tokens divided is. h.none is.parameters tokens divided is.written }) none

-- a key comes twice, so that no order of these parameters rises
no_order : (xs ys : List CodeParameter) (numbers : List ℕ) → IsPermutation xs ys → IsNonDecreasingBy (λ x. x.number) ys → numbers ≡ map (λ x. x.number) ys
    → (IsStrictlyIncreasing numbers → ⊥) → (qs : List Parameter) → map (λ q. q.0) qs ≡ map (λ x. x.number) xs → (order : List Parameter)
    → IsPermutation qs order → Rising order → ⊥
no_order xs ys numbers same climbs e isnt qs first order perm rising =
    let moved : IsPermutation (map (λ x. x.number) xs) (map (λ q. q.0) order) =
    subst (λ (ns : List ℕ). IsPermutation ns (map (λ (q : Parameter). q.0) order)) first (IsPermutation-map (λ (q : Parameter). q.0) qs order perm) in
    let rises = rising_to order rising in
    let one : map (λ q. q.0) order ≡ map (λ x. x.number) ys = order_once (map (λ x. x.number) xs) (map (λ q. q.0) order) (map (λ x. x.number) ys) moved
    (climbs_rising (map (λ q. q.0) order) rises) (IsPermutation-map (λ (x : CodeParameter). x.number) xs ys same) (climbs_by ys climbs) in
    isnt (subst IsStrictlyIncreasing (one ∙ sym e) rises)

taken_once : (ps qs : List Parameter) (cursor : Cursor) (tokens : List Token) → TookParameters ps cursor → tokens_at cursor ≡ Ok tokens → AreWritten qs tokens
    → qs ≡ ps
taken_once ps qs cursor tokens took divided written =
    let both : ◌≡◌ {A = Result (List Token) TokensError} (Ok took.tokens) (Ok tokens) = sym took.divided ∙ divided in
    let same : took.tokens ≡ tokens = cc in
    written_once qs ps tokens written (subst (AreWritten ps) same took.written)

pub no_rise : (xs ys : List CodeParameter) (numbers : List ℕ) (cursor : Cursor) → TookParameters (map parameter_value xs) cursor → IsPermutation xs ys
    → IsNonDecreasingBy (λ x. x.number) ys → numbers ≡ map (λ x. x.number) ys → (IsStrictlyIncreasing numbers → ⊥) → NoneOfAll AreParameters cursor
no_rise xs ys numbers cursor took same climbs e isnt = record {
  none = λ octets tokens divided is. no_order xs ys numbers same climbs e isnt is.parameters
      (ap (map (λ (q : Parameter). q.0)) (taken_once (map parameter_value xs) is.parameters cursor tokens took divided is.written) ∙ numbers_of_values xs)
      is.order is.same is.rising;
}

-- a number that is not below the next, so that the numbers do not rise
pub falls_not_rises : {n : ℕ} {numbers : List ℕ} → IsFirstFall n numbers → IsStrictlyIncreasing numbers → ⊥
falls_not_rises fall rises =
    let up = rises fall.index fall.inside in
    let down = rw fall.here at fall.falls in
    absurd (omega (arith, up, down))

first_twice : (n : ℕ) (numbers : List ℕ) → IsFirstFall n numbers → Climbs numbers → IsFirstTwice n numbers
first_twice n numbers fall climbs =
    let up : get_or numbers fall.index 0 ≤ get_or numbers (fall.index + 1) 0 = rw add-one (climbs fall.index (rw add-one at fall.inside)) in
    let down : get_or numbers (fall.index + 1) 0 ≤ n = fall.falls in
    let here : n ≡ get_or numbers fall.index 0 = fall.here in
    record { index = fall.index; inside = fall.inside; here = sym here; again = omega (arith, up, down, here); before = fall.before }

pub key_twice : (xs ys : List CodeParameter) (numbers : List ℕ) (cursor : Cursor) (n : ℕ) (e : ParseError) → TookParameters (map parameter_value xs) cursor
    → IsPermutation xs ys
    → IsNonDecreasingBy (λ x. x.number) ys → numbers ≡ map (λ x. x.number) ys → IsFirstFall n numbers → Says (twice_text n) e → KeyTwice cursor e
key_twice xs ys numbers cursor n e took same climbs f fall says =
    let keys : numbers ≡ map (λ p. p.0) (map parameter_value ys) = f ∙ sym (numbers_of_values ys) in
    let up : Climbs numbers = subst Climbs (sym f) (climbs_by ys climbs) in
    record {
      parameters = map parameter_value xs;
      tokens = took.tokens;
      divided = took.divided;
      written = took.written;
      none = λ order perm rising. no_order xs ys numbers same climbs f (falls_not_rises fall) (map parameter_value xs) (numbers_of_values xs) order perm rising;
      order = map parameter_value ys;
      same = IsPermutation-map parameter_value xs ys same;
      climbs = subst Climbs keys up;
      key = n;
      twice = subst (IsFirstTwice n) keys (first_twice n numbers fall up);
      says = says;
    }

pub are_parameters : (xs ys : List CodeParameter) (numbers octets : List ℕ) (cursor : Cursor) → TookParameters (map parameter_value xs) cursor
    → IsPermutation xs ys
    → numbers ≡ map (λ x. x.number) ys → IsStrictlyIncreasing numbers → octets ≡ tlvs (map parameter_value ys) → TookAll AreParameters octets cursor
are_parameters xs ys numbers octets cursor took same e rises wire = record {
  tokens = took.tokens;
  divided = took.divided;
  value = record {
    parameters = map parameter_value xs;
    written = took.written;
    order = map parameter_value ys;
    same = IsPermutation-map parameter_value xs ys same;
    rising = rising_from (map parameter_value ys) (subst IsStrictlyIncreasing (e ∙ sym (numbers_of_values ys)) rises);
    wire = wire;
  };
}

-- so they were appended to octets
pub put_taken : {octets before after : List ℕ} {cursor : Cursor} → TookAll AreParameters octets cursor → after ≡ before ++ octets
    → PutAll AreParameters before after cursor
put_taken {octets} took e = record { tokens = took.tokens; divided = took.divided; octets = octets; given = took.value; same = e }
