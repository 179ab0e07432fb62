-- Tokens of parameters: the parameter of each, and why a token is of none.
use Rattle.std.proofs.Common.{◌≡◌, ◌≢◌, ℕ, List, [], ◌∷◌, ◌++◌, refl, sym, ◌∙◌, subst, inl, inr, ⊎_elim, ◌<◌, length, length-append, get_or, arith}
use Rattle.std.proofs.Common.{Option, Some, None, Result, Ok, Err, drop, ap, find, unwrap_or, ◌==◌, if◌then◌else◌, Bool, true, false}
use Rattle.std.proofs.lemmas.Str.Pattern.{IsSplitOnceResult, split_parts, split_after}
use Rattle.std.proofs.{lemmas.List.append_cancel_right, lemmas.List.get_or_default, Math.Seq.get_or-append_seam}
use Rattle.std.specs.{Cmp.Lexicographic.pointwise, Cmp.Lexicographic.pointwise_decides, Str.Parse.digits_value, Str.Parse.without_leading_plus}
use Rattle.std.specs.{List.AllByRecursion, Prelude.IfOk, Prelude.IfErr, Prelude.codes, Cmp.unsigned_Decides}
use denote.Ref.{Bor}
use Rattle.dns_types.specs.declared.error.ParseError.{ParseError}
use Rattle.dns_rdata_service.specs.ParameterTokens.{IsKeyText, ItemOf, ListOf, IsValueAlone, IsValueText, IsUnquoted, HasNoEquals, HasValue}
use Rattle.dns_rdata_service.specs.declared.svcb.key.SvcParamKey.TheVariants.{Key, Key65535, Unknown}
use Rattle.dns_rdata_service.specs.ParameterTokens.{IsKeyAlone, IsKeyWithValue, IsParameterToken, IsNumberedKey}
use Rattle.dns_rdata_service.specs.{declared.svcb.value.SvcParamValue.SvcParamValue, SvcParamKey.key_text, SvcParamKey.named_keys}
use Rattle.dns_rdata_service.specs.{declared.svcb.key.SvcParamKey.SvcParamKey, Parameters.Parameter}
use Rattle.dns_types.specs.declared.error.ParseError.TheVariants as parse
use Rattle.dns_rdata_service.specs.declared.svcb.key.SvcParamKey.TheVariants as keys
use Rattle.dns_rdata_service.specs.declared.svcb.value.SvcParamValue.TheVariants as values
use Rattle.dns_types.specs.declared.error.ProtoError.TheVariants as proto

-- a value that begins with no quote
pub bare : (value : List ℕ) → ((rest : List ℕ) → value ≢ 34 ∷ rest) → IsUnquoted value value
bare value n = inr (refl, n [], λ inner q. n (inner ++ 34 ∷ []) q)

-- ---- one text at most

pub unquoted_one : (value a b : List ℕ) → IsUnquoted value a → IsUnquoted value b → a ≡ b
unquoted_one value a b (inl x) (inl y) = let e : a ++ 34 ∷ [] ≡ b ++ 34 ∷ [] = cc in append_cancel_right a b (34 ∷ []) e
unquoted_one value a b (inl x) (inr y) = absurd (y.2 a x)
unquoted_one value a b (inr x) (inl y) = absurd (x.2 b y)
unquoted_one value a b (inr x) (inr y) = x.0 ∙ sym y.0

-- ---- the first `=`

no_equals_at : (text : List ℕ) → HasNoEquals text → (i : ℕ) → i < length text → get_or text i 0 ≢ 61
no_equals_at text h i l = h i 0 l

no_equals : (text : List ℕ) → ((i : ℕ) → i < length text → get_or text i 0 ≢ 61) → HasNoEquals text
no_equals text h k d l = rw (get_or_default text k d 0 l) (h k l)

at_seam : (front behind : List ℕ) → HasNoEquals (front ++ 61 ∷ behind) → ⊥
at_seam front behind n = n (length front) 0 (omega (arith, length-append front (61 ∷ behind))) (get_or-append_seam front 61 behind 0)

-- the token is of exactly these parameters
pub record IsTokenOf (token : List ℕ) (Is : Parameter → Type 0) : Type 0 where
  pub read : (p : Parameter) → Is p → IsParameterToken token p
  pub only : (p : Parameter) → IsParameterToken token p → Is p

-- a token without `=`
pub not_divided : (token : List ℕ) (r : Option (Bor (List ℕ) × Bor (List ℕ))) → IsSplitOnceResult 61 token r → r ≡ None
    → IsTokenOf token (λ p. IsKeyText token p.0 × IsValueAlone p.0 p.1)
not_divided token r h e = record {
  read = λ p is. inl (record { no_equals = no_equals token (rw e at (split_parts 61 token r h (omega arith))); key = is.0; value = is.1 });
  only = λ p w. ⊎_elim (λ (a : IsKeyAlone token p). (a.key, a.value))
      (λ (a : IsKeyWithValue token p). absurd (rw e at (split_after 61 token a.front a.behind r h (omega arith) a.split (no_equals_at a.front a.first)))) w;
}

-- a token with a first `=`
pub divided : (token : List ℕ) (r : Option (Bor (List ℕ) × Bor (List ℕ))) (x : Bor (List ℕ) × Bor (List ℕ)) → IsSplitOnceResult 61 token r → r ≡ Some x
    → IsTokenOf token (λ p. IsKeyText x.0.now p.0 × HasValue x.1.now p)
divided token r x h e =
    let parts = rw e at (split_parts 61 token r h (omega arith)) in record {
      read = λ p is. inr (record { front = x.0.now; behind = x.1.now; split = parts.0; first = no_equals x.0.now parts.1; key = is.0; value = is.1 });
      only = λ p w. ⊎_elim (λ (a : IsKeyAlone token p). absurd (at_seam x.0.now x.1.now (rw parts.0 at a.no_equals)))
          (λ (a : IsKeyWithValue token p).
          let same = rw e at (split_after 61 token a.front a.behind r h (omega arith) a.split (no_equals_at a.front a.first)) in
          (subst (λ (t : List ℕ). IsKeyText t p.0) (sym same.0) a.key, subst (λ (t : List ℕ). HasValue t p) (sym same.1) a.value)) w;
    }

pub token_read : {token : List ℕ} {Is : Parameter → Type 0} → IsTokenOf token Is → (r : Result Parameter ParseError) → IfOk r Is
    → IfOk r (IsParameterToken token)
token_read d (Ok p) h = d.read p h
token_read d (Err e) h = tt

pub token_refused : {token : List ℕ} {Is : Parameter → Type 0} → IsTokenOf token Is → (r : Result Parameter ParseError)
    → IfErr r (λ e. e ≢ parse.Memory → (p : Parameter) → Is p → ⊥) → IfErr r (λ e. e ≢ parse.Memory → (p : Parameter) → IsParameterToken token p → ⊥)
token_refused d (Ok p) h = tt
token_refused d (Err e) h = λ m p is. h m p (d.only p is)

-- a text that is no name and has no number is of no key
pub no_key : (text : List ℕ) → AllByRecursion (λ k. text ≢ key_text k) named_keys → ((n : ℕ) → ¬ (IsNumberedKey text n)) → (key : SvcParamKey)
    → IsKeyText text key → ⊥
unfolding key_text
no_key text other none (Key n) is = none n is.0
no_key text other none (Unknown n) is = is
no_key text other none key is = grind (arith, is, other)

pub not_memory : (why : Bor (List ℕ)) → proto.Message why ≢ proto.Memory
not_memory why e = absurd cc

-- ---- one key at most

-- the first key with this name, or else the one with the number after `key`
abbrev key_from : List ℕ → SvcParamKey
key_from text = unwrap_or (find (λ k. pointwise ◌==◌ (key_text k) text) named_keys) (Key (digits_value 10 (without_leading_plus (drop 3 text))))

told : (text : List ℕ) (key : SvcParamKey) → IsKeyText text key → key_from text ≡ key
unfolding key_text
told text (Key n) is =
    ap key_from is.0.spelled
    ∙ other (pointwise ◌==◌ (codes "key65535") (codes "key" ++ is.0.digits))
    (λ e. is.1 (is.0.spelled ∙ sym ((pointwise_decides unsigned_Decides (codes "key65535") (codes "key" ++ is.0.digits)).0 e)))
    ∙ ap Key (sym is.0.number.value)
  where
    other : (b : Bool) → (b ≡ true → ⊥)
        → unwrap_or (if b then Some Key65535 else None) (Key (digits_value 10 (without_leading_plus is.0.digits)))
        ≡ Key (digits_value 10 (without_leading_plus is.0.digits))
    other true f = absurd (f refl)
    other false f = refl
told text (Unknown n) is = absurd is
told text key is = ap key_from is

pub key_one : (text : List ℕ) (a b : SvcParamKey) → IsKeyText text a → IsKeyText text b → a ≡ b
key_one text a b x y = sym (told text a x) ∙ told text b y
