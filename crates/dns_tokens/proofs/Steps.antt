-- Tokens read one after the other.
use Rattle.std.proofs.Common.{◌≡◌, ℕ, List, [], ◌∷◌, Option, Some, None, Result, Ok, Err, refl, subst, sym, inl, inr}
use Rattle.std.specs.Prelude.{map}
use Rattle.std.specs.{List.flat_map, Iterator.Yields, Iterator.Drains, Result.IsErrAnd}
use Rattle.dns_types.specs.declared.error.ParseError.{ParseError}
use Rattle.dns_types.specs.declared.error.ParseError.TheVariants as parse
use Rattle.dns_fields.specs.Fields.{Value, Values}
use Rattle.dns_fields.specs.declared.Kind.{Kind}
use Rattle.dns_tokens.specs.{Taking.HoldsBehind, Taking.HoldsOfTokens, Forms.Form, Forms.TokenRow, Forms.token, Forms.ignored, Forms.nothing}
use Rattle.dns_tokens.specs.{Forms.every_text, Reads.UnlessParseMemory, Reads.NoToken, Reads.AreTexts, Reads.AreJoined, Reads.ReadsText, Reads.FirstIs}
use Rattle.dns_tokens.specs.{Reads.TookToken, Reads.RefusedToken, Reads.ReadsToken, Reads.TookTokens, Reads.RefusedTokens, Reads.ReadsTokenRow}

pub unless_map : (e : ParseError) (P Q : Type 0) → (P → Q) → UnlessParseMemory e P → UnlessParseMemory e Q
unless_map parse.Memory P Q f h = tt
unless_map e P Q f h = f h

pub unless_all : (e : ParseError) {P : Type 0} → P → UnlessParseMemory e P
unless_all parse.Memory h = tt
unless_all e h = h

no_tokens : (tokens : List (List ℕ)) (first : List ℕ) → first ∷ tokens ≡ [] → ⊥
no_tokens tokens first e = absurd cc

first_of : {k : Kind} {kinds : List Kind} (form : Form k) (token_row : TokenRow kinds) (vs : Values (k ∷ kinds)) (tokens : List (List ℕ))
    → (token form token_row).stand vs tokens → FirstIs form vs.0 tokens
unfolding token
first_of form token_row vs [] stand = stand
first_of form token_row vs (first ∷ tokens) stand = stand.0

then_stands : {k : Kind} {kinds : List Kind} (form : Form k) (token_row : TokenRow kinds) {v : Value k} {vs : Values kinds} {first : List ℕ} {tokens : List (List ℕ)} → form.is v first → token_row.stand vs tokens → (token form token_row).stand (v, vs) (first ∷ tokens)
unfolding token
then_stands form token_row h k = (h, k)

rest_of : {k : Kind} {kinds : List Kind} (form : Form k) (token_row : TokenRow kinds) (vs : Values (k ∷ kinds)) (first : List ℕ) (tokens : List (List ℕ))
    → (token form token_row).stand vs (first ∷ tokens) → token_row.stand vs.1 tokens
unfolding token
rest_of form token_row vs first tokens stand = stand.1

module _ {S I : Type 0} (gives : I → Option S → I → Type 0) (text : S → List ℕ) where
  holds_behind_map : (xs : List S) (s : I) (P Q : List (List ℕ) → Type 0) → ((tokens : List (List ℕ)) → P tokens → Q tokens) → HoldsBehind gives text xs s P
      → HoldsBehind gives text xs s Q
  holds_behind_map [] s P Q f (inl all) = inl (λ tokens. f tokens (all tokens))
  holds_behind_map [] s P Q f (inr h) = inr (h.0, h.1, f [] h.2)
  holds_behind_map (x ∷ xs) s P Q f h =
      (h.0, h.1, holds_behind_map xs h.0 (λ tokens. P (text x ∷ tokens)) (λ tokens. Q (text x ∷ tokens)) (λ tokens. f (text x ∷ tokens)) h.2)

module _ {S I : Type 0} {gives : I → Option S → I → Type 0} {text : S → List ℕ} where
  pub holds_map : {s : I} {P : List (List ℕ) → Type 0} (Q : List (List ℕ) → Type 0) → ((tokens : List (List ℕ)) → P tokens → Q tokens)
      → HoldsOfTokens gives text s P → HoldsOfTokens gives text s Q
  holds_map {s} {P} Q f h = record { taken = h.taken; holds = holds_behind_map gives text h.taken s P Q f h.holds }

  -- a token was taken
  pub holds_token : {s : I} (P : List (List ℕ) → Type 0) (x : S) (t : I) → gives s (Some x) t → HoldsOfTokens gives text t (λ tokens. P (text x ∷ tokens))
      → HoldsOfTokens gives text s P
  holds_token P x t g h = record { taken = x ∷ h.taken; holds = (t, g, h.holds) }

  -- none is left
  pub holds_end : {s : I} (P : List (List ℕ) → Type 0) (t : I) → gives s None t → P [] → HoldsOfTokens gives text s P
  holds_end P t g h = record { taken = []; holds = inr (t, g, h) }

  pub holds_all : {s : I} (P : List (List ℕ) → Type 0) → ((tokens : List (List ℕ)) → P tokens) → HoldsOfTokens gives text s P
  holds_all P h = record { taken = []; holds = inl h }

  -- ---- one token

  pub missing : {e : ParseError} {k : Kind} {form : Form k} {s : I} (t : I) → gives s None t → RefusedToken gives text e form s
  missing {e} {k} {form} t g = record { none = unless_all e (holds_end (λ tokens. (v : Value k) → FirstIs form v tokens → ⊥) t g (λ v is. is)) }

  pub token_refused : {e : ParseError} {k : Kind} {form : Form k} {s : I} (x : S) (t : I) → gives s (Some x) t → UnlessParseMemory e (NoToken form (text x))
      → RefusedToken gives text e form s
  token_refused {e} {k} {form} x t g h = record {
    none = unless_map e _ _ (λ no. holds_token (λ tokens. (v : Value k) → FirstIs form v tokens → ⊥) x t g (holds_all (λ tokens. (v : Value k) → FirstIs form v (text x ∷ tokens) → ⊥) (λ tokens v is. no.none v is))) h;
  }

  -- ---- a token row of tokens

  pub took_ignored : {s : I} → TookTokens gives text ignored tt s
  took_ignored = record { tokens = holds_all (λ tokens. ignored.stand tt tokens) (λ tokens. tt) }

  pub took_nothing : {s : I} (t : I) → gives s None t → TookTokens gives text nothing tt s
  took_nothing t g = record { tokens = holds_end (λ tokens. nothing.stand tt tokens) t g refl }

  pub took_then : {s t : I} {k : Kind} {kinds : List Kind} {form : Form k} {token_row : TokenRow kinds} {v : Value k} {vs : Values kinds}
      → TookToken gives text form v s t → TookTokens gives text token_row vs t → TookTokens gives text (token form token_row) (v, vs) s
  took_then {t = t} {k = k} {kinds = kinds} {form = form} {token_row = token_row} {v = v} {vs = vs} f g = record {
    tokens = holds_token (λ tokens. (token form token_row).stand (v, vs) tokens) f.token t f.gave (holds_map (λ tokens. (token form token_row).stand (v, vs) (text f.token ∷ tokens)) (λ tokens stand. then_stands form token_row f.is stand) g.tokens);
  }

  -- a token whose number is what the field's parts give
  pub took_as : {s t : I} {k : Kind} {kinds : List Kind} {form : Form k} {token_row : TokenRow kinds} {v w : Value k} {vs : Values kinds} → w ≡ v
      → TookToken gives text form v s t → TookTokens gives text token_row vs t → TookTokens gives text (token form token_row) (w, vs) s
  took_as e f g = rw e (took_then f g)

  pub refused_first : {e : ParseError} {s : I} {k : Kind} {kinds : List Kind} {form : Form k} (token_row : TokenRow kinds) → RefusedToken gives text e form s
      → RefusedTokens gives text e (token form token_row) s
  refused_first {e} {s} {k} {kinds} {form} token_row r = record {
    none = unless_map e _ _ (λ none. holds_map (λ tokens. (vs : Values (k ∷ kinds)) → (token form token_row).stand vs tokens → ⊥) (λ tokens no vs stand. no vs.0 (first_of form token_row vs tokens stand)) none) r.none;
  }

  pub refused_then : {e : ParseError} {s t : I} {k : Kind} {kinds : List Kind} {form : Form k} {token_row : TokenRow kinds} {v : Value k}
      → TookToken gives text form v s t → RefusedTokens gives text e token_row t → RefusedTokens gives text e (token form token_row) s
  refused_then {e} {s} {t} {k} {kinds} {form} {token_row} {v} f r = record {
    none = unless_map e _ _ (λ none. holds_token (λ tokens. (vs : Values (k ∷ kinds)) → (token form token_row).stand vs tokens → ⊥) f.token t f.gave (holds_map (λ tokens. (vs : Values (k ∷ kinds)) → (token form token_row).stand vs (text f.token ∷ tokens) → ⊥) (λ tokens no vs stand. no vs.1 (rest_of form token_row vs (text f.token) tokens stand)) none)) r.none;
  }

  pub nothing_refused : {e : ParseError} {s : I} (x : S) (t : I) → gives s (Some x) t → RefusedTokens gives text e nothing s
  nothing_refused {e} {s} x t g = record {
    none = unless_all e (holds_token (λ tokens. (vs : Values []) → nothing.stand vs tokens → ⊥) x t g (holds_all (λ tokens. (vs : Values []) → nothing.stand vs (text x ∷ tokens) → ⊥) (λ tokens vs stand. no_tokens tokens (text x) stand)));
  }

  -- all were taken
  holds_drained_to : (xs : List S) (s t u : I) (P : List (List ℕ) → Type 0) → Yields gives s xs t → gives t None u → P (map text xs)
      → HoldsOfTokens gives text s P
  holds_drained_to [] s t u P y g h = let same : s ≡ t = y in holds_end P u (subst (λ (i : I). gives i None u) (sym same) g) h
  holds_drained_to (x ∷ xs) s t u P y g h = holds_token P x y.0 y.1 (holds_drained_to xs y.0 t u (λ tokens. P (text x ∷ tokens)) y.2 g h)

  pub holds_drained : (xs : List S) {s : I} (P : List (List ℕ) → Type 0) → Drains gives s xs → P (map text xs) → HoldsOfTokens gives text s P
  holds_drained xs {s} P d h = holds_drained_to xs s d.1.0 d.0 P d.1.1 d.1.2 h

  pub texts_taken : {s : I} (P : List (List ℕ) → Type 0) (texts : List (List ℕ)) → AreTexts gives text s texts → P texts → HoldsOfTokens gives text s P
  texts_taken P texts d h = holds_drained d.0 P d.1 (subst P d.2 h)

  pub joined_taken : {s : I} (P : List ℕ → Type 0) (joined : List ℕ) → AreJoined gives text s joined → P joined
      → HoldsOfTokens gives text s (λ tokens. P (flat_map (λ w. w) tokens))
  joined_taken P joined d h = holds_drained d.0 (λ tokens. P (flat_map (λ w. w) tokens)) d.1 (subst P d.2 h)

module _ {S I : Type 0} (gives : I → Option S → I → Type 0) (text : S → List ℕ) where
  -- what a token gives is what the first token gives
  pub token_read : {T : Type 0} {k : Kind} (form : Form k) (view : T → Value k) {s t : I} (r : Result T ParseError) (x : S) (spelled : List ℕ)
      → gives s (Some x) t → spelled ≡ text x → ReadsText form view r spelled → ReadsToken gives text form view r s t
  token_read form view (Ok y) x spelled g e h = record { token = x; gave = g; is = subst (λ (w : List ℕ). form.is (view y) w) e h }
  token_read form view {t = t} (Err y) x spelled g e h =
      token_refused {gives = gives} {text = text} x t g (subst (λ (w : List ℕ). UnlessParseMemory y (NoToken form w)) e h)

  pub exit_token : {T : Type 0} {k : Kind} (form : Form k) (view : T → Value k) (s t : I) (r : Result T ParseError) (e : ParseError) → IsErrAnd r (λ y. y ≡ e)
      → RefusedToken gives text e form s → ReadsToken gives text form view r s t
  exit_token form view s t (Ok x) e h f = elim h [ ]
  exit_token form view s t (Err y) e h f = subst (λ (z : ParseError). RefusedToken gives text z form s) (sym h) f

  pub exit_token_row : {T : Type 0} {kinds : List Kind} (token_row : TokenRow kinds) (view : T → Values kinds) (s : I) (r : Result T ParseError) (e : ParseError) → IsErrAnd r (λ y. y ≡ e) → RefusedTokens gives text e token_row s → ReadsTokenRow gives text token_row view r s
  exit_token_row token_row view s (Ok x) e h f = elim h [ ]
  exit_token_row token_row view s (Err y) e h f = subst (λ (z : ParseError). RefusedTokens gives text z token_row s) (sym h) f

  -- ---- all further tokens

  pub texts_read : {s : I} (texts : List (List ℕ)) → AreTexts gives text s texts → TookTokens gives text every_text (texts, tt) s
  texts_read texts d = record { tokens = texts_taken (λ tokens. every_text.stand (texts, tt) tokens) texts d refl }

pub ruleset taking = (missing, exit_token, token_read, took_nothing)

pub ruleset reading = (took_ignored, took_nothing, took_then, refused_first, refused_then, exit_token_row, texts_read)
