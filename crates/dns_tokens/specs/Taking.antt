-- What holds of the tokens that an iterator gives, when some of them were taken.
use Rattle.std.specs.Prelude.{ℕ, ◌⊎◌, List, [], ◌∷◌, Option, Some, None}

-- Behind the items taken, P holds of the texts of what else comes: whatever it is, or, where nothing else comes, of
-- nothing.
abbrev pub HoldsBehind : {S I : Type 0} → (I → Option S → I → Type 0) → (S → List ℕ) → List S → I
    → (List (List ℕ) → Type 0) → Type 0
HoldsBehind {S} {I} gives text [] s P = ((tokens : List (List ℕ)) → P tokens) ⊎ ((end : I) × gives s None end × P [])
HoldsBehind {S} {I} gives text (x ∷ xs) s P = (t : I) × gives s (Some x) t
    × HoldsBehind gives text xs t (λ tokens. P (text x ∷ tokens))

-- P holds of the texts of all items that come from s, by those that were taken
pub record HoldsOfTokens {S I : Type 0} (gives : I → Option S → I → Type 0) (text : S → List ℕ) (s : I)
    (P : List (List ℕ) → Type 0) : Type 0 where
  pub taken : List S
  pub holds : HoldsBehind gives text taken s P
