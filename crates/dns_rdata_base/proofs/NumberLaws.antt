-- The number of the variant that a number gives.
use Rattle.std.proofs.Common.{◌≡◌, ℕ, ◌==◌, cond, List, [], ◌∷◌, find, unwrap_or, Option, Some, arith}
use Rattle.std.proofs.lemmas.Bool.Decides.{nat_tests}
use Rattle.dns_rdata_base.specs.Numbered.{numbered_of}

named_or : {T : Type 0} (number : T → ℕ) (n : ℕ) (e d : T) (o : Option T) → number (unwrap_or o d) ≡ n
    → number (unwrap_or (cond (number e == n) (Some e) o) d) ≡ n
named_or number n e d o h = grind (arith, nat_tests)

-- the number of what a number gives is that number
pub number-numbered_of : {T : Type 0} (number : T → ℕ) (named : List T) (other : ℕ → T) (n : ℕ) → number (other n) ≡ n
    → number (numbered_of number named other n) ≡ n
number-numbered_of number [] other n h = h
number-numbered_of number (e ∷ named) other n h =
    named_or number n e (other n) (find (λ x. number x == n) named) (number-numbered_of number named other n h)
