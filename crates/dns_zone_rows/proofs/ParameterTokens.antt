-- Parameters in tokens, one by one.
use Rattle.std.proofs.Common.{◌≡◌, ℕ, suc, ◌+◌, ◌-◌, ◌<◌, ◌≤◌, true, false, cond, ltb, min, List, [], ◌∷◌, ◌++◌, length, take, drop, get_or, Option}
use Rattle.std.proofs.Common.{Some, None, Result, Ok, Err, refl, sym, ◌∙◌, ap, subst, arith, inl, inr, length-append}
use Rattle.std.specs.List.{position, position_or_len}
use Rattle.std.proofs.{Math.Seq.drop-cons, lemmas.Bool.cases_Bool, lemmas.Option.same_Some, lemmas.Bool.Decides.nat_tests, lemmas.List.Sums.passes_at_first}
use Rattle.std.proofs.lemmas.List.{drop_all, take_all, take-append-drop, length-take, length-drop}
use Rattle.dns_zone_tokens.specs.{Remaining.NoneOfAll, Remaining.with_tokens, declared.tokens_error.TokensError.TokensError, Tokens.Token, Tokens.Cursor, Tokens.tokens_at, Tokens.with_token}
use Rattle.dns_zone_tokens.proofs.RemainingSteps.{token_ok}
use Rattle.dns_zone_rows.specs.Parameters.{Parameter, is_equals, name_in, value_in, StandsAlone, IsQuotedValue, IsWritten, HasParameter, AreWritten}
use Rattle.dns_zone_rows.specs.ParameterSteps.{NoQuoted, TookWritten}

front_alone : (name value : List ℕ) (front behind : List Token) (token : Token) (rest : List Token) → token ∷ rest ≡ front ++ behind
    → IsWritten name value front → StandsAlone token
front_alone name value [] behind token rest e is = absurd is
front_alone name value (v ∷ []) behind token rest e is = let s : token ≡ v = cc in subst StandsAlone (sym s) is.0
front_alone name value (v ∷ u ∷ []) behind token rest e is = let s : token ≡ v = cc in subst StandsAlone (sym s) is.0
front_alone name value (v ∷ u ∷ t ∷ front) behind token rest e is = absurd is

-- parameters begin with a token that directly follows no other
pub starts_alone : (ps : List Parameter) (token : Token) (rest : List Token) → AreWritten ps (token ∷ rest) → StandsAlone token
starts_alone [] token rest e = absurd (cc)
starts_alone (p ∷ ps) token rest h = front_alone h.3.name h.3.value h.0 h.1 token rest h.2 h.3.written

has_same : (name value n v : List ℕ) (p : Parameter) → name ≡ n → value ≡ v → HasParameter name value p → HasParameter n v p
has_same name value n v p e f h = subst (λ (x : List ℕ). HasParameter n x p) f (subst (λ (x : List ℕ). HasParameter x value p) e h)

pub is_quoted : (token : Token) → token.quoted ≡ true → token.quoted ≡ false → ⊥
is_quoted token a b = let both : true ≡ false = sym a ∙ b in absurd (cc)

-- no value in quotes follows a token that ends with its first `=`
pub record Apart (front behind : List Token) : Type 0 where
  pub none : (token quoted : Token) (rest : List Token) → front ≡ token ∷ [] → behind ≡ quoted ∷ rest → token.octets ≡ name_in token.octets ++ 61 ∷ []
      → IsQuotedValue quoted → ⊥

-- so it is where parameters follow
pub apart : (front : List Token) (ps : List Parameter) (behind : List Token) → AreWritten ps behind → Apart front behind
apart front ps behind h = record {
  none = λ token quoted rest e f ended is. is_quoted quoted is.quoted (starts_alone ps quoted rest (subst (AreWritten ps) f h)).bare;
}

ends_as : (a b : Token) (n : List ℕ) → a ≡ b → b.octets ≡ n ++ 61 ∷ [] → n ≡ name_in b.octets → a.octets ≡ name_in a.octets ++ 61 ∷ []
ends_as a b n s e f =
    subst (λ (x : Token). x.octets ≡ name_in x.octets ++ 61 ∷ []) (sym s) (e ∙ ap (λ (x : List ℕ). x ++ 61 ∷ []) f)

-- the same tokens begin with the same name and value, and the same follow
pub record SameBegin (name value n v : List ℕ) (behind others : List Token) : Type 0 where
  pub names : name ≡ n
  pub values : value ≡ v
  pub left : behind ≡ others

pub begin_once : (name value n v : List ℕ) (front behind other others : List Token) → front ++ behind ≡ other ++ others → IsWritten name value front
    → IsWritten n v other → Apart front behind → Apart other others → SameBegin name value n v behind others
begin_once name value n v (a ∷ []) behind (b ∷ []) others e h k x y =
    let s : a ≡ b = cc in
    let l : behind ≡ others = cc in
    record { names = h.1 ∙ ap (λ (w : Token). name_in w.octets) s ∙ sym k.1; values = h.2 ∙ ap (λ (w : Token). value_in w.octets) s ∙ sym k.2; left = l }
begin_once name value n v (a ∷ []) behind (b ∷ c ∷ []) others e h k x y =
    let s : a ≡ b = cc in
    let l : behind ≡ c ∷ others = cc in
    absurd (x.none a c others refl l (ends_as a b n s k.1 k.2) k.3)
begin_once name value n v (a ∷ c ∷ []) behind (b ∷ []) others e h k x y =
    let s : b ≡ a = cc in
    let l : others ≡ c ∷ behind = cc in
    absurd (y.none b c behind refl l (ends_as b a name s h.1 h.2) h.3)
begin_once name value n v (a ∷ c ∷ []) behind (b ∷ d ∷ []) others e h k x y =
    let s : a ≡ b = cc in
    let t : c ≡ d = cc in
    let l : behind ≡ others = cc in
    record { names = h.2 ∙ ap (λ (w : Token). name_in w.octets) s ∙ sym k.2; values = h.4 ∙ ap (λ (w : Token). w.octets) t ∙ sym k.4; left = l }
begin_once name value n v [] behind other others e h k x y = absurd h
begin_once name value n v (a ∷ c ∷ f ∷ front) behind other others e h k x y = absurd h
begin_once name value n v front behind [] others e h k x y = absurd k
begin_once name value n v front behind (b ∷ d ∷ f ∷ other) others e h k x y = absurd k

nothing_written : (name value : List ℕ) (front behind : List Token) → [] ≡ front ++ behind → IsWritten name value front → ⊥
nothing_written name value [] behind e is = is
nothing_written name value (token ∷ front) behind e is = cc

pub no_tokens : (ps : List Parameter) → AreWritten ps [] → ps ≡ []
no_tokens [] h = refl
no_tokens (p ∷ ps) h = absurd (nothing_written h.3.name h.3.value h.0 h.1 h.2 h.3.written)

-- whichever parameters begin with these tokens, the first has this name and value, and the others follow
first_once : (name value : List ℕ) (front behind : List Token) (all : List Parameter) → IsWritten name value front → Apart front behind
    → AreWritten all (front ++ behind) → (p : Parameter) × HasParameter name value p × (others : List Parameter) × AreWritten others behind
first_once name value front behind [] is x h = absurd (nothing_written name value front behind (sym h) is)
first_once name value front behind (p ∷ ps) is x h =
    let b = begin_once name value h.3.name h.3.value front behind h.0 h.1 h.2 is h.3.written x (apart h.0 ps h.1 h.4) in
    (p, has_same h.3.name h.3.value name value p (sym b.names) (sym b.values) h.3.has, ps, subst (AreWritten ps) (sym b.left) h.4)

took : (name value : List ℕ) (front : List Token) (old new : Cursor) → tokens_at old ≡ with_tokens front (tokens_at new) → IsWritten name value front
    → ((behind : List Token) → tokens_at new ≡ Ok behind → Apart front behind) → TookWritten name value old new
took name value front old new divided is x = record {
  front = front;
  divided = divided;
  written = is;
  only = λ all tokens e written.
      let k = all_ok front (tokens_at new) tokens (sym divided ∙ e) in
      let h = first_once name value front k.0 all is (x k.0 k.1) (subst (AreWritten all) k.2 written) in
      (h.0, h.1, record { others = h.2; tokens = k.0; divided = k.1; written = h.3 });
}
  where
    all_ok : (front : List Token) (r : Result (List Token) TokensError) (all : List Token) → with_tokens front r ≡ Ok all
        → (rest : List Token) × (r ≡ Ok rest) × (all ≡ front ++ rest)
    all_ok [] r all e = (all, e, refl)
    all_ok (token ∷ front) r all e =
        let k = token_ok token (with_tokens front r) all e in
        let m = all_ok front r k.0 k.1 in
        (m.0, m.1, k.2 ∙ ap (λ (x : List Token). token ∷ x) m.2)

-- the token alone is the next parameter
pub took_alone : (token : Token) (old new : Cursor) → tokens_at old ≡ with_token token (tokens_at new) → StandsAlone token
    → (token.octets ≡ name_in token.octets ++ 61 ∷ [] → NoQuoted new) → TookWritten (name_in token.octets) (value_in token.octets) old new
took_alone token old new first alone other =
    took (name_in token.octets) (value_in token.octets) (token ∷ []) old new first (alone, refl, refl) (λ behind divided. record {
      none = λ a quoted rest e f ended is.
          let s : token ≡ a = cc e in
          (other (subst (λ (x : Token). x.octets ≡ name_in x.octets ++ 61 ∷ []) (sym s) ended)).none quoted rest (divided ∙ ap Ok f) is;
    })

-- the token and the one in quotes after it are the next parameter
pub took_quoted : (token quoted : Token) (old mid new : Cursor) → tokens_at old ≡ with_token token (tokens_at mid)
    → tokens_at mid ≡ with_token quoted (tokens_at new)
    → StandsAlone token → token.octets ≡ name_in token.octets ++ 61 ∷ [] → IsQuotedValue quoted → TookWritten (name_in token.octets) quoted.octets old new
took_quoted token quoted old mid new first second alone ends is_value =
    took (name_in token.octets) quoted.octets (token ∷ quoted ∷ []) old new (first ∙ ap (with_token token) second) (alone, ends, refl, is_value, refl)
    (λ behind divided. record { none = λ a q rest e f ended is. absurd (cc e) })

pub took_same : (name value n v : List ℕ) (old new : Cursor) → name ≡ n → value ≡ v → TookWritten name value old new → TookWritten n v old new
took_same name value n v old new e f h = subst (λ (x : List ℕ). TookWritten n x old new) f (subst (λ (x : List ℕ). TookWritten x value old new) e h)

-- ---- the first `=`

at_first : (n l i : ℕ) → cond (ltb n l) (Some n) None ≡ Some i → (n ≡ i) × (n < l)
at_first n l i e = elim (cases_Bool (ltb n l)) [
  | inl h ↦ (let s : ◌≡◌ {A = Option ℕ} (Some n) (Some i) = (rw h at e) in (same_Some n i s, grind (arith, nat_tests)))
  | inr h ↦ (let s : ◌≡◌ {A = Option ℕ} None (Some i) = (rw h at e) in absurd (cc))
]

at_none : (n l : ℕ) → cond (ltb n l) (Some n) None ≡ None → l ≤ n
at_none n l e = elim (cases_Bool (ltb n l)) [
  | inl h ↦ (let s : ◌≡◌ {A = Option ℕ} (Some n) None = (rw h at e) in absurd (cc))
  | inr h ↦ grind (arith, nat_tests)
]

-- a token that ends with its first `=`
ends_so : (token : List ℕ) → token ≡ name_in token ++ 61 ∷ [] → position_or_len is_equals token + 1 ≡ length token
ends_so token e =
    let n = position_or_len is_equals token in
    let l : length token ≡ length (take n token) + 1 = ap length e ∙ length-append (take n token) (61 ∷ []) in
    let m : length (take n token) ≡ min n (length token) = length-take n token in
    omega (arith, l, m)

-- the token has no `=`
pub no_equals : (token : List ℕ) → position is_equals token ≡ None → (name_in token ≡ token) × (value_in token ≡ []) × (token ≡ name_in token ++ 61 ∷ [] → ⊥)
no_equals token none =
    let n = position_or_len is_equals token in
    let past : length token ≤ n = at_none n (length token) none in
    (take_all n token past, drop_all (n + 1) token (omega arith), λ e. let ends = ends_so token e in absurd (omega (arith, ends)))

-- the first `=` is here
pub with_equals : (token : List ℕ) (at : ℕ) → position is_equals token ≡ Some at → (name_in token ≡ take at token) × (value_in token ≡ drop (at + 1) token)
with_equals token at is =
    let k = at_first (position_or_len is_equals token) (length token) at is in
    (ap (λ (n : ℕ). take n token) k.0, ap (λ (n : ℕ). drop (n + 1) token) k.0)

-- and something follows it
pub goes_on : (token : List ℕ) (at : ℕ) → position is_equals token ≡ Some at → at + 1 < length token → token ≡ name_in token ++ 61 ∷ [] → ⊥
goes_on token at is more e =
    let k = at_first (position_or_len is_equals token) (length token) at is in
    let ends = ends_so token e in
    omega (arith, k.0, ends)

-- and nothing follows it
pub ends_here : (token : List ℕ) (at : ℕ) → position is_equals token ≡ Some at → length token ≤ at + 1 → token ≡ name_in token ++ 61 ∷ []
ends_here token at is last =
    let n = position_or_len is_equals token in
    let k = at_first n (length token) at is in
    let passes : is_equals (get_or token n 0) ≡ true = passes_at_first is_equals token 0 k.1 in
    let c : get_or token n 0 ≡ 61 = grind (arith, nat_tests) in
    let none : drop (suc n) token ≡ [] = drop_all (suc n) token (omega (arith, k.0)) in
    let behind : drop n token ≡ 61 ∷ [] = drop-cons token n 0 k.1 ∙ ap (λ (x : ℕ). x ∷ drop (suc n) token) c ∙ ap (λ (x : List ℕ). 61 ∷ x) none in
    sym (take-append-drop n token) ∙ ap (λ (x : List ℕ). take n token ++ x) behind

-- the code's slice to the end
pub to_end : (token : List ℕ) (n : ℕ) → drop n token ≡ take (length token - n) (drop n token)
to_end token n = sym (take_all (length token - n) (drop n token) (omega (arith, length-drop n token)))

-- ---- errors

-- no parameters begin with a token in quotes, or with one directly after another
pub not_alone : (token : Token) (old new : Cursor) → tokens_at old ≡ with_token token (tokens_at new) → (StandsAlone token → ⊥) → NoneOfAll AreWritten old
not_alone token old new first isnt = record {
  none = λ ps tokens divided written.
      let k = token_ok token (tokens_at new) tokens (sym first ∙ divided) in
      isnt (starts_alone ps token k.0 (subst (AreWritten ps) k.2 written));
}
