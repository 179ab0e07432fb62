-- Iterators that yield what their model lists.
use Rattle.std.proofs.Common.{◌≡◌, ◌<◌, List, ◌∷◌, length, ap, arith}

-- fewer items are left
pub fewer_left : {A : Type 0} {old new : List A} {x : A} → old ≡ x ∷ new → length new < length old
fewer_left e = omega (arith, ap length e)
