-- Octets that were taken are the front of those that were left.
use Rattle.std.proofs.Common.{◌≡◌, ℕ, ◌%◌, List, ◌∷◌, drop, ap, ◌∙◌, Result, Err}
use Rattle.std.proofs.{lemmas.Result.err_from_is_err_and, Math.Nat.mod-eq_of_lt}
use Rattle.std.specs.{Result.IsErrAnd}
use Rattle.dns_fields.specs.{declared.Kind.TheVariants.Number, Fields.Field}
use Rattle.dns_check.proofs.Splits.{at_split}

-- an octet and what follows it
pub octet_split : {m : List ℕ} {p n q : ℕ} → Field m p (Number 1) n q → drop p m ≡ n ∷ drop q m
octet_split {m} {p} {n} {q} f =
    let e : n % 256 ≡ n = mod-eq_of_lt f.is.0 in
    at_split f.is.1 ∙ ap (λ (k : ℕ). k ∷ drop q m) e

-- what a `?` passes on
pub is_err : {T E : Type 0} (r : Result T E) (e : E) → IsErrAnd r (λ y. y ≡ e) → r ≡ Err e
is_err r e h = let p = err_from_is_err_and r h in p.1 ∙ ap Err p.2
