-- Times: what has none of the parts of a date is no date.
use Rattle.std.proofs.Common.{◌≡◌, ◌⊎◌, inl, inr, List, ℕ, length, Option, Some, None, IfNone, arith}
use Rattle.dns_zone_rows.specs.Times.{IsDate, IsTimeText}

pub if_none : {A : Type 0} {P : Type 0} (o : Option A) → P → IfNone o P
if_none (Some x) p = tt
if_none None p = p

no_time : (text : List ℕ) → length text ≡ 14 → ((n : ℕ) → IsDate n text → ⊥) → (n : ℕ) → IsTimeText n text → ⊥
no_time text long other n (inl is) = let short = is.short in omega (arith, long, short)
no_time text long other n (inr is) = other n is

pub no_date : (o : Option ℕ) (text : List ℕ) → length text ≡ 14 → IfNone o ((n : ℕ) → IsDate n text → ⊥)
    → IfNone o ((n : ℕ) → IsTimeText n text → ⊥)
no_date (Some x) text long h = tt
no_date None text long h = no_time text long h
