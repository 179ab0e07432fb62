-- Addresses take at least one octet: the law that their impls give, which is cited from specs alone.
use Rattle.std.proofs.Common.{ℕ, suc, ◌<◌, List, [], ◌∷◌, arith}
use Rattle.dns_fields.specs.Fields.{Stands, Values}
use Rattle.dns_fields.specs.declared.Kind.{TheVariants.Octets}

pub octets_take : {T : Type 0} (n : ℕ) (fields : T → Values (Octets (suc n) ∷ [])) (m : List ℕ) (p : ℕ) (x : T) (q : ℕ)
    → Stands m p (Octets (suc n) ∷ []) (fields x) q → p < q
octets_take n fields m p x q s = omega (arith, s.1.is.0, s.1.is.1.ends, s.2)
