-- What a reader hands on.
use Rattle.std.proofs.Common.{◌≡◌, Result, Ok, Err, sym, subst, ◌⊎◌, inl, inr}
use Rattle.std.specs.{Prelude.IfErr, Result.IsErrAnd}
use Rattle.dns_types.specs.declared.error.ParseError.{ParseError}

-- what else may be so
pub or_then : {M X Y : Type 0} → (X → Y) → M ⊎ X → M ⊎ Y
or_then f (inl m) = inl m
or_then f (inr x) = inr (f x)

-- what is true of an error, as it is passed on
pub exit_as : {T : Type 0} (F : Result T ParseError → Type 0) (Q : ParseError → Type 0) (r : Result T ParseError) → IsErrAnd r Q
    → ((e : ParseError) → Q e → F (Err e)) → F r
exit_as F Q (Ok x) h f = elim h [ ]
exit_as F Q (Err e) h f = f e h

pub exit_with : {T : Type 0} (F : Result T ParseError → Type 0) (e : ParseError) (r : Result T ParseError) → IsErrAnd r (λ y. y ≡ e) → F (Err e) → F r
exit_with F e r h f = exit_as F (λ y. y ≡ e) r h (λ y same. subst (λ (z : ParseError). F (Err z)) (sym same) f)

-- why it is rejected
pub exit_why : {T : Type 0} (P Q : ParseError → Type 0) (r : Result T ParseError) → IsErrAnd r P → ((e : ParseError) → P e → Q e) → IfErr r Q
exit_why P Q r h f = exit_as (λ r. IfErr r Q) P r h f

pub exit_fault : {T : Type 0} (Q : ParseError → Type 0) (r : Result T ParseError) (e : ParseError) → IsErrAnd r (λ y. y ≡ e) → Q e → IfErr r Q
exit_fault Q r e h q = exit_with (λ r. IfErr r Q) e r h q
