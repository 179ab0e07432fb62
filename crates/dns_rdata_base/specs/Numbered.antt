-- Enums whose variants have numbers: which variant a number gives, and that they are compared by number and then by
-- rank, which is the index of the variant in the declaration.
use Rattle.std.specs.Prelude.{◌≡◌, ℕ, ◌==◌, ◌++◌, Bool, List, Option, find, unwrap_or, nat_eq}
use Rattle.std.specs.Hash as fed
use Rattle.std.specs.{Ordering.as_partial_cmp, Ordering.on, Ordering.nat_cmp, Ordering.then_cmp, Ordering.eq_of_both, declared.cmp.Ordering.Ordering}
use Rattle.dns_fields.specs.Fields.{Field}
use Rattle.dns_fields.specs.declared.Kind.{TheVariants.Number}

-- the named variant with this number, or what other numbers give
abbrev pub numbered_of : {T : Type 0} → (T → ℕ) → List T → (ℕ → T) → ℕ → T
numbered_of number named other n = unwrap_or (find (λ e. number e == n) named) (other n)

abbrev pub numbered_eq : {T : Type 0} → (T → ℕ) → (T → ℕ) → T → T → Bool
numbered_eq number variant = eq_of_both (on number nat_eq) (on variant nat_eq)

abbrev pub numbered_cmp : {T : Type 0} → (T → ℕ) → (T → ℕ) → T → T → Ordering
numbered_cmp number variant = then_cmp (on number nat_cmp) (on variant nat_cmp)

abbrev pub numbered_partial_cmp : {T : Type 0} → (T → ℕ) → (T → ℕ) → T → T → Option Ordering
numbered_partial_cmp number variant = as_partial_cmp (numbered_cmp number variant)

-- what is fed to a hasher, the number in as many octets as it has
abbrev pub numbered_hash : {T : Type 0} → (ℕ → fed.HashWrites) → (T → ℕ) → (T → ℕ) → T → fed.HashWrites
numbered_hash feed number variant e = feed (number e) ++ fed.u8 (variant e)

-- the value is the one that its number gives, and the number is encoded from p to q in so many octets
pub record NumberedAt {T : Type 0} (width : ℕ) (number : T → ℕ) (of : ℕ → T) (m : List ℕ) (p : ℕ) (x : T)
    (q : ℕ) : Type 0 where
  pub field : Field m p (Number width) (number x) q
  pub given : x ≡ of (number x)

-- what a value is compared by, before other keys
abbrev pub keyed : {T R : Type 0} → (T → ℕ) → (T → ℕ) → T → R → ℕ × (ℕ × R)
keyed number variant e rest = (number e, (variant e, rest))
