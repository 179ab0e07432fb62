-- Items of a list, read one by one.
use Rattle.std.proofs.Common.{◌≡◌, ℕ, List, [], ◌∷◌, ◌++◌, sym, ◌∙◌, ap, subst, append_assoc, ◌≢◌, Result, Ok, Err, Option, Some, None, refl, map}
use Rattle.std.proofs.lemmas.Slice.Zip.{all_zipped_more}
use Rattle.std.specs.{Iterator.Yields, Prelude.IfErr, List.AllZip}
use Rattle.dns_tokens.specs.Lists.{segments_of, IsItem}
use Rattle.dns_rdata_service.specs.ParameterTokens.{ItemOf, ListOf, IsParameterToken}
use Rattle.dns_rdata_service.specs.{TokenRows.these_parameters, TokenRows.parameter_tokens, Parameters.Parameter, Parameters.parameter_of}
use Rattle.dns_types.specs.declared.error.ParseError.{ParseError}
use Rattle.dns_tokens.proofs.ListSteps.{item_one}
use Rattle.dns_fields.specs.{Fields.Values, declared.Kind.TheVariants.Parameters}
use Rattle.dns_tokens.specs.Reads.{UnlessParseMemory, TookTokens, RefusedTokens}
use Rattle.dns_tokens.proofs.{Steps.holds_token, Steps.holds_all, Steps.holds_drained, Yielded.holds_yielded}
use Rattle.dns_types.specs.declared.error.ParseError.TheVariants as parse

zip_at : {A B : Type 0} (R : A → B → Type 0) (front : List A) (a : A) (us : List A) (bs : List B) → AllZip R (front ++ a ∷ us) bs → (b : B) × R a b
zip_at R [] a us [] h = absurd h
zip_at R [] a us (b ∷ bs) h = (b, h.0)
zip_at R (x ∷ front) a us [] h = absurd h
zip_at R (x ∷ front) a us (b ∷ bs) h = zip_at R front a us bs h.1

-- the values are of the segments before the rest
pub record SoFar {T : Type 0} (Is : List ℕ → T → Type 0) (text rest : List ℕ) (xs : List T) : Type 0 where
  pub front : List (List ℕ)
  pub divided : segments_of text ≡ front ++ segments_of rest
  pub each : AllZip (ItemOf Is) front xs

pub so_far_more : {T : Type 0} (Is : List ℕ → T → Type 0) (text rest segment more : List ℕ) (xs all : List T) (x : T) → SoFar Is text rest xs
    → segments_of rest ≡ segment ∷ segments_of more → ItemOf Is segment x → all ≡ xs ++ x ∷ [] → SoFar Is text more all
so_far_more Is text rest segment more xs all x s e i a = rw a (record {
  front = s.front ++ segment ∷ [];
  divided = s.divided ∙ (ap (λ (p : List (List ℕ)). s.front ++ p) e ∙ sym (append_assoc s.front (segment ∷ []) (segments_of more)));
  each = all_zipped_more (ItemOf Is) s.front xs segment x s.each i;
})

pub so_far_refused : {T : Type 0} (Is : List ℕ → T → Type 0) (text rest segment more : List ℕ) (xs : List T) → SoFar Is text rest xs
    → segments_of rest ≡ segment ∷ segments_of more → ((x : T) → ItemOf Is segment x → ⊥) → (all : List T) → ListOf Is text all → ⊥
so_far_refused Is text rest segment more xs s e none all l =
    let whole : segments_of text ≡ s.front ++ segment ∷ segments_of more = s.divided ∙ ap (λ (p : List (List ℕ)). s.front ++ p) e in
    let zip : AllZip (ItemOf Is) (s.front ++ segment ∷ segments_of more) all = subst (λ (p : List (List ℕ)). AllZip (ItemOf Is) p all) whole l.each in
    let found = zip_at (ItemOf Is) s.front segment (segments_of more) all zip in
    none found.0 found.1

-- a text's item has no value, or the text has no item
pub item_refused : {T : Type 0} (Is : List ℕ → T → Type 0) (text item : List ℕ) (r : Result T ParseError) → IsItem text item
    → IfErr r (λ e. e ≢ parse.Memory → (x : T) → Is item x → ⊥) → IfErr r (λ e. e ≢ parse.Memory → (x : T) → ItemOf Is text x → ⊥)
item_refused Is text item (Ok x) i h = tt
item_refused Is text item (Err e) i h = λ n x o. h n x (subst (λ (t : List ℕ). Is t x) (item_one o.is_item i) o.is)

pub unless_is : (e : ParseError) (P : Type 0) → (e ≢ parse.Memory → P) → UnlessParseMemory e P
unless_is parse.Memory P f = tt
unless_is e P f = f (λ m. absurd cc)

module _ {S I : Type 0} {gives : I → Option S → I → Type 0} {text : S → List ℕ} where
  pub parameters_refused : {e : ParseError} {s : I} (xs : List S) (t u : I) (x : S) (spelled : List ℕ) → Yields gives s xs t → gives t (Some x) u
      → spelled ≡ text x
      → (e ≢ parse.Memory → (p : Parameter) → IsParameterToken spelled p → ⊥) → RefusedTokens gives text e parameter_tokens s
  parameters_refused {e} {s} xs t u x spelled y g same other = record {
    none = unless_is e _ (λ h. holds_yielded xs s t (λ tokens. (vs : Values (Parameters ∷ [])) → parameter_tokens.stand vs tokens → ⊥) y
        (holds_token (λ tokens. (vs : Values (Parameters ∷ [])) → parameter_tokens.stand vs (map text xs ++ tokens) → ⊥) x u g
        (holds_all (λ tokens. (vs : Values (Parameters ∷ [])) → parameter_tokens.stand vs (map text xs ++ text x ∷ tokens) → ⊥)
        (λ tokens vs stand. let found = zip_at IsParameterToken (map text xs) (text x) tokens stand.0 stand.1 in
        other h found.0 (subst (λ (w : List ℕ). IsParameterToken w found.0) (sym same) found.1)))));
  }

  pub parameters_took : {s : I} (xs : List S) (t u : I) (ps : List Parameter) → Yields gives s xs t → gives t None u → AllZip IsParameterToken (map text xs) ps
      → TookTokens gives text parameter_tokens (map parameter_of ps, tt) s
  parameters_took xs t u ps y g zip =
      record { tokens = holds_drained xs (λ tokens. parameter_tokens.stand (map parameter_of ps, tt) tokens) (u, (t, y, g)) (ps, zip, refl) }

  pub these_took : {s : I} (xs : List S) (t u : I) (ps : List Parameter) → Yields gives s xs t → gives t None u → AllZip IsParameterToken (map text xs) ps
      → TookTokens gives text (these_parameters ps) tt s
  these_took xs t u ps y g zip = record { tokens = holds_drained xs (λ tokens. (these_parameters ps).stand tt tokens) (u, (t, y, g)) zip }
