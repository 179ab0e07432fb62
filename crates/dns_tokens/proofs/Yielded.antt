-- What holds of all tokens, where some were taken in a loop.
use Rattle.std.proofs.Common.{◌≡◌, ℕ, List, [], ◌∷◌, ◌++◌, Option, subst, sym, map}
use Rattle.std.specs.Iterator.{Yields}
use Rattle.dns_tokens.specs.Taking.{HoldsOfTokens}
use Rattle.dns_tokens.proofs.Steps.{holds_token}

module _ {S I : Type 0} {gives : I → Option S → I → Type 0} {text : S → List ℕ} where
  pub holds_yielded : (xs : List S) (s t : I) (P : List (List ℕ) → Type 0) → Yields gives s xs t
      → HoldsOfTokens gives text t (λ tokens. P (map text xs ++ tokens)) → HoldsOfTokens gives text s P
  holds_yielded [] s t P y h = let same : s ≡ t = y in subst (λ (i : I). HoldsOfTokens gives text i P) (sym same) h
  holds_yielded (x ∷ xs) s t P y h = holds_token P x y.0 y.1 (holds_yielded xs y.0 t (λ tokens. P (text x ∷ tokens)) y.2 h)
