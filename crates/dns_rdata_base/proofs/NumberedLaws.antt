-- Enums that are compared by number and then by variant have a lawful equality and order.
use Rattle.std.specs.Cmp.{nat_cmp_total, unsigned_ties, unsigned_Decides, first_so, second_so, partial_equiv_from_equiv, partial_order_from_agreeing_total}
use Rattle.std.specs.{Prelude.◌≡◌, Prelude.ℕ, Prelude.true, Prelude.refl, Ordering.nat_cmp, Ordering.is_eq, Hash.HashWrites}
use Rattle.std.specs.Cmp.{IsEquivalence, IsPartialEquivalence, IsPartialOrder, IsTotalOrder, and_equiv, on_equiv, on_total, then_total, both_tied, nat_eq_equiv}
use Rattle.dns_rdata_base.specs.Numbered.{numbered_eq, numbered_cmp, numbered_partial_cmp, numbered_hash}

pub numbered_equiv : {T : Type 0} (number variant : T → ℕ) → IsEquivalence (numbered_eq number variant)
numbered_equiv number variant = and_equiv (on_equiv number nat_eq_equiv) (on_equiv variant nat_eq_equiv)

pub numbered_partial : {T : Type 0} (number variant : T → ℕ) → IsPartialEquivalence (numbered_eq number variant)
numbered_partial number variant = partial_equiv_from_equiv (numbered_equiv number variant)

pub numbered_total : {T : Type 0} (number variant : T → ℕ) → IsTotalOrder (numbered_cmp number variant)
numbered_total number variant = then_total (on_total number nat_cmp_total) (on_total variant nat_cmp_total)

-- `==` holds exactly where the order answers Equal
pub numbered_ties : {T : Type 0} (number variant : T → ℕ) (a b : T) → numbered_eq number variant a b ≡ is_eq (numbered_cmp number variant a b)
numbered_ties number variant a b = both_tied _ _ (nat_cmp (number a) (number b)) (nat_cmp (variant a) (variant b)) (unsigned_ties (number a) (number b))
    (unsigned_ties (variant a) (variant b))

pub numbered_order : {T : Type 0} (number variant : T → ℕ) → IsPartialOrder (numbered_eq number variant) (numbered_partial_cmp number variant)
numbered_order number variant = partial_order_from_agreeing_total (numbered_cmp number variant) (numbered_total number variant) (λ _ _. refl)
    (numbered_ties number variant)

-- values that are the same are fed alike
pub numbered_alike : {T : Type 0} (feed : ℕ → HashWrites) (number variant : T → ℕ) (a b : T) → numbered_eq number variant a b ≡ true
    → numbered_hash feed number variant a ≡ numbered_hash feed number variant b
numbered_alike feed number variant a b same =
    let n : number a ≡ number b = (unsigned_Decides (number a) (number b)).0 (first_so _ _ same) in
    let v : variant a ≡ variant b = (unsigned_Decides (variant a) (variant b)).0 (second_so _ _ same) in
    rw (n, v) refl
