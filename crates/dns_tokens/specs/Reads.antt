-- What a reader of tokens does, exactly.
use Rattle.std.specs.Prelude.{◌≡◌, ℕ, List, [], ◌∷◌, Option, Some, Result, Ok, Err, OnOk, map}
use Rattle.std.specs.{Iterator.Count, Iterator.IsFinite, Iterator.Drains, List.flat_map}
use Rattle.dns_types.specs.declared.error.ParseError.{ParseError}
use Rattle.dns_types.specs.declared.error.ParseError.TheVariants as parse
use Rattle.dns_fields.specs.Fields.{Value, Values}
use Rattle.dns_fields.specs.declared.Kind.{Kind}
use Rattle.dns_tokens.specs.{Taking.HoldsOfTokens, Forms.Form, Forms.TokenRow}

-- the error `Memory` says nothing
abbrev pub UnlessParseMemory : ParseError → Type 0 → Type 0
UnlessParseMemory parse.Memory P = Unit {0}
UnlessParseMemory e P = P

-- P holds of no value
pub record HoldsOfNone {V : Type 0} (P : V → Type 0) : Type 0 where
  pub none : (v : V) → P v → ⊥

-- finds a value that P holds of exactly where there is one
abbrev pub Decides : {T V : Type 0} → (V → Type 0) → (T → V) → Result T ParseError → Type 0
Decides P view (Ok x) = P (view x)
Decides P view (Err e) = UnlessParseMemory e (HoldsOfNone P)

-- no value has this token
pub record NoToken {k : Kind} (form : Form k) (token : List ℕ) : Type 0 where
  pub none : (v : Value k) → form.is v token → ⊥

-- reads a token exactly where it has the form
abbrev pub ReadsText : {T : Type 0} {k : Kind} → Form k → (T → Value k) → Result T ParseError → List ℕ → Type 0
ReadsText form view (Ok x) token = form.is (view x) token
ReadsText form view (Err e) token = UnlessParseMemory e (NoToken form token)

-- the first token has this form
abbrev pub FirstIs : {k : Kind} → Form k → Value k → List (List ℕ) → Type 0
FirstIs form v [] = ⊥
FirstIs form v (token ∷ tokens) = form.is v token

module _ {S I : Type 0} (gives : I → Option S → I → Type 0) (text : S → List ℕ) where
  -- one token was taken, and has this form and value
  pub record TookToken {k : Kind} (form : Form k) (v : Value k) (s t : I) : Type 0 where
    pub token : S
    pub gave : gives s (Some token) t
    pub is : form.is v (text token)

  pub record RefusedToken (e : ParseError) {k : Kind} (form : Form k) (s : I) : Type 0 where
    pub none : UnlessParseMemory e (HoldsOfTokens gives text s (λ tokens. (v : Value k) → FirstIs form v tokens → ⊥))

  -- takes one token exactly where it has the form
  abbrev pub ReadsToken : {T : Type 0} {k : Kind} → Form k → (T → Value k) → Result T ParseError → I → I → Type 0
  ReadsToken form view (Ok x) s t = TookToken form (view x) s t
  ReadsToken form view (Err e) s t = RefusedToken e form s

  -- the tokens that come from s give the values
  pub record TookTokens {kinds : List Kind} (token_row : TokenRow kinds) (vs : Values kinds) (s : I) : Type 0 where
    pub tokens : HoldsOfTokens gives text s (λ tokens. token_row.stand vs tokens)

  -- they give none
  pub record RefusedTokens (e : ParseError) {kinds : List Kind} (token_row : TokenRow kinds) (s : I) : Type 0 where
    pub none : UnlessParseMemory e
        (HoldsOfTokens gives text s (λ tokens. (vs : Values kinds) → token_row.stand vs tokens → ⊥))

  -- reads a value exactly if the tokens of the token row give its fields
  abbrev pub ReadsTokenRow : {T : Type 0} {kinds : List Kind} → TokenRow kinds → (T → Values kinds)
      → Result T ParseError → I → Type 0
  ReadsTokenRow token_row view (Ok x) s = TookTokens token_row (view x) s
  ReadsTokenRow token_row view (Err e) s = RefusedTokens e token_row s

-- the texts of all items
abbrev pub AreTexts : {S I : Type 0} → (I → Option S → I → Type 0) → (S → List ℕ) → I → List (List ℕ) → Type 0
AreTexts {S} gives text s texts = (xs : List S) × Drains gives s xs × (texts ≡ map text xs)

-- the texts of all items, one after the other
abbrev pub AreJoined : {S I : Type 0} → (I → Option S → I → Type 0) → (S → List ℕ) → I → List ℕ → Type 0
AreJoined {S} gives text s joined = (xs : List S) × Drains gives s xs × (joined ≡ flat_map (λ w. w) (map text xs))

-- after a token was taken another may be, and an iterator that ends still does
abbrev pub GoesOn : {T E I : Type 0} → (I → Type 0) → (I → Count) → Result T E → I → I → Type 0
GoesOn can left r s t = OnOk r (can t × (IsFinite (left s) → IsFinite (left t)))
