-- Types read from tokens.
use Rattle.std.proofs.Common.{◌≡◌, ℕ, List, [], ◌∷◌, ◌++◌, Option, Some, None, sym, subst, map}
use Rattle.std.specs.{Iterator.Yields, List.AllZip}
use Rattle.dns_types.specs.{RecordTypes.number_of, RecordTypes.IsTypeText, declared.record_type.RecordType.RecordType, declared.error.ParseError.ParseError}
use Rattle.dns_fields.specs.{Fields.Values, declared.Kind.TheVariants.Bitmap}
use Rattle.dns_tokens.specs.Reads.{TookTokens, RefusedTokens}
use Rattle.dns_tokens.proofs.{Steps.holds_token, Steps.holds_all, Steps.holds_drained, Steps.unless_all, Yielded.holds_yielded}
use Rattle.dns_rdata_policy.specs.{RecordTypeSet.IsSetOf, TokenRows.type_tokens}

-- every token of a list of types is the text of one
has_type : (front : List (List ℕ)) (w : List ℕ) (tokens : List (List ℕ)) (types : List RecordType) → AllZip IsTypeText (front ++ w ∷ tokens) types
    → (k : RecordType) × IsTypeText w k
has_type [] w tokens [] h = absurd h
has_type [] w tokens (k ∷ types) h = (k, h.0)
has_type (x ∷ front) w tokens [] h = absurd h
has_type (x ∷ front) w tokens (k ∷ types) h = has_type front w tokens types h.1

-- one token more
pub types_more : (tokens : List (List ℕ)) (types : List RecordType) (w : List ℕ) (k : RecordType) → AllZip IsTypeText tokens types → IsTypeText w k
    → AllZip IsTypeText (tokens ++ w ∷ []) (types ++ k ∷ [])
types_more [] [] w k h is = (is, tt)
types_more [] (t ∷ types) w k h is = absurd h
types_more (x ∷ tokens) [] w k h is = absurd h
types_more (x ∷ tokens) (t ∷ types) w k h is = (h.0, types_more tokens types w k h.1 is)

module _ {S I : Type 0} {gives : I → Option S → I → Type 0} {text : S → List ℕ} where
  pub types_refused : {e : ParseError} {s : I} (xs : List S) (t u : I) (x : S) (spelled : List ℕ) → Yields gives s xs t → gives t (Some x) u
      → spelled ≡ text x → ((k : RecordType) → IsTypeText spelled k → ⊥) → RefusedTokens gives text e type_tokens s
  types_refused {e} {s} xs t u x spelled y g same other = record {
    none = unless_all e (holds_yielded xs s t (λ tokens. (vs : Values (Bitmap ∷ [])) → type_tokens.stand vs tokens → ⊥) y
        (holds_token (λ tokens. (vs : Values (Bitmap ∷ [])) → type_tokens.stand vs (map text xs ++ tokens) → ⊥) x u g
        (holds_all (λ tokens. (vs : Values (Bitmap ∷ [])) → type_tokens.stand vs (map text xs ++ text x ∷ tokens) → ⊥)
        (λ tokens vs stand. let found =
        has_type (map text xs) (text x) tokens stand.0 stand.1 in other found.0 (subst (λ (w : List ℕ). IsTypeText w found.0) (sym same) found.1)))));
  }

  pub types_took : {s : I} (xs : List S) (t u : I) (set numbers : List ℕ) → Yields gives s xs t → gives t None u
      → (types : List RecordType) × AllZip IsTypeText (map text xs) types × (numbers ≡ map number_of types) → IsSetOf numbers set
      → TookTokens gives text type_tokens (set, tt) s
  types_took xs t u set numbers y g found is = record { tokens = holds_drained xs (λ tokens. type_tokens.stand (set, tt) tokens) (u, (t, y, g)) (found.0, found.1, subst (λ (l : List ℕ). IsSetOf l set) found.2 is) }
