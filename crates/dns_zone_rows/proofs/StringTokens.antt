-- Strings in the remaining tokens.
use Rattle.std.proofs.Common.{◌≡◌, ◌≢◌, ℕ, true, false, List, [], ◌∷◌, ◌++◌, length, Result, Ok, refl, sym, ◌∙◌, ap, ◌⊎◌, inl, inr, append_assoc, arith}
use Rattle.std.specs.{List.flat_map, Result.IsErrAnd}
use Rattle.std.proofs.{lemmas.Grind.flat_map-append, lemmas.List.append-nil, lemmas.Slice.Zip.all_zipped_more}
use Rattle.dns_fields.specs.Tlvs.{string as string_octets}
use Rattle.dns_types.specs.declared.error.ParseError.{ParseError}
use Rattle.dns_types.specs.declared.error.ParseError.TheVariants as parse
use Rattle.dns_tokens.specs.Reads.{UnlessParseMemory}
use Rattle.dns_tokens.proofs.Steps.{unless_map}
use Rattle.dns_zone_tokens.specs.{Forms.string, ZoneReads.LacksFirst, ZoneReads.NoValueOf, ZoneReads.PutAs, Tokens.Token, Tokens.Cursor, Tokens.tokens_at, Tokens.seen_at}
use Rattle.dns_zone_tokens.specs.{Tokens.with_token, Remaining.AreStrings, Remaining.NoneOfAll, Remaining.PutAll, Remaining.PutsAll, Remaining.AmongFault, Remaining.NoneHas}
use Rattle.dns_zone_tokens.specs.{Forms.StringFault, declared.field.StringField.StringField}
use Rattle.dns_zone_tokens.proofs.FirstSteps.{exit_with, or_then}
use Rattle.dns_zone_tokens.proofs.RemainingSteps.{TakenSoFar, all_taken, none_among, fault_among, one_of_both}
use Rattle.dns_zone_rows.specs.Rows.{RestGives, SomeStrings}

-- the tokens are strings, which were appended to the octets, each after its length
pub record ArePut (before octets : List ℕ) (tokens : List Token) : Type 0 where
  pub strings : List (List ℕ)
  pub are : AreStrings strings tokens
  pub same : octets ≡ before ++ flat_map string_octets strings

-- and there is one
pub record SomePut (before octets : List ℕ) (tokens : List Token) : Type 0 where
  pub some : tokens ≢ []
  pub put : ArePut before octets tokens

pub none_put : (before : List ℕ) → ArePut before before []
none_put before = record { strings = []; are = tt; same = sym (append-nil before) }

pub one_put : {before mid octets : List ℕ} {token : Token} → PutAs string string_octets mid octets token → (tokens : List Token) → ArePut before mid tokens
    → SomePut before octets (tokens ++ token ∷ [])
one_put {before} {token = token} put tokens so = record {
  some = not_none tokens;
  put = record {
    strings = so.strings ++ put.value ∷ [];
    are = all_zipped_more (λ w s. string.is s w) tokens so.strings token put.value so.are put.is;
    same = put.same ∙ ap (λ (o : List ℕ). o ++ string_octets put.value) so.same
        ∙ append_assoc before (flat_map string_octets so.strings) (string_octets put.value)
        ∙ ap (λ (o : List ℕ). before ++ o) (sym (flat_map-append string_octets so.strings (put.value ∷ [])
        ∙ ap (λ (o : List ℕ). flat_map string_octets so.strings ++ o) (append-nil (string_octets put.value))));
  };
}
  where
    not_none : (front : List Token) → front ++ token ∷ [] ≢ []
    not_none [] e = cc
    not_none (first ∷ front) e = cc

pub all_strings : {old now : Cursor} {before octets : List ℕ} → TakenSoFar (SomePut before octets) old now → tokens_at now ≡ Ok []
    → PutAll (RestGives SomeStrings) before octets old
all_strings so end =
    let put = so.are.put in record {
      tokens = so.tokens;
      divided = all_taken so end;
      octets = flat_map string_octets put.strings;
      given = (so.are.some, record { strings = put.strings; are = put.are; same = refl });
      same = put.same;
    }

-- a token that is no string
pub exit_string : {T : Type 0} {are : List Token → Type 0} {old now : Cursor} (new : Cursor) (token : Token) (e : ParseError) (r : Result T ParseError)
    (before after : List ℕ)
    → IsErrAnd r (λ y. y ≡ e) → TakenSoFar are old now → tokens_at now ≡ with_token token (tokens_at new) → UnlessParseMemory e (NoValueOf string token)
    → PutsAll (RestGives SomeStrings) r before after old
exit_string {old = old} new token e r before after h so first none = exit_with (λ r. PutsAll (RestGives SomeStrings) r before after old) e r h
    (unless_map e (NoValueOf string token) (NoneOfAll (RestGives SomeStrings) old)
    (λ no. none_among so token new first (λ front rest v given.
    let one = one_of_both (λ w s. string.is s w) front token rest given.1.strings given.1.are in no.none one.0 one.1)) none)

pub string_why : {are : List Token → Type 0} (fault : Token → ParseError → Type 0) (missing : ParseError) {old now : Cursor} (new : Cursor) (token : Token)
    (e : ParseError)
    → TakenSoFar are old now → seen_at now ≡ token ∷ seen_at new → ((tokens : List Token) → are tokens → NoneHas fault tokens)
    → (e ≡ parse.Memory) ⊎ fault token e → (e ≡ parse.Memory) ⊎ LacksFirst missing old e ⊎ AmongFault fault old e
string_why fault missing new token e so seen before = or_then (λ has. inr (fault_among so token new seen before has))

-- tokens that are strings have no fault
string_right : (field : StringField) (token : Token) (octets : List ℕ) → string.is octets token → (e : ParseError) → StringFault field token e → ⊥
string_right field token octets is e (inl bad) = let both : true ≡ false = sym is.0.escapes ∙ bad.1 in absurd (cc)
string_right field token octets is e (inr long) = omega (arith, is.1, long.2, ap length is.0.value)

all_right : (field : StringField) (tokens : List Token) (strings : List (List ℕ)) → AreStrings strings tokens → NoneHas (StringFault field) tokens
all_right field [] strings are = tt
all_right field (token ∷ tokens) [] are = absurd are
all_right field (token ∷ tokens) (octets ∷ strings) are = (string_right field token octets are.0, all_right field tokens strings are.1)

pub strings_right : {before octets : List ℕ} (field : StringField) (tokens : List Token) → ArePut before octets tokens → NoneHas (StringFault field) tokens
strings_right field tokens put = all_right field tokens put.strings put.are
