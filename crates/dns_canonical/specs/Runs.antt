-- Octets at hand.
use Rattle.std.specs.Prelude.{◌≡◌, ◌==◌, ◌+◌, ◌≤◌, length, take, drop, min, ℕ, Bool, Option, Some, None, List, [], ◌∷◌, ◌++◌, if◌then◌else◌}
use Rattle.std.specs.{Ordering.nat_cmp, declared.cmp.Ordering.Ordering}
use Rattle.std.specs.declared.cmp.Ordering.TheVariants.{Less, Equal, Greater}
use Rattle.dns_labels.specs.Comparing.{lowered_octets}

-- the octets of a slice, or the canonical ones of a name whose labels they are
abbrev pub tail_octets : List ℕ → Bool → List ℕ
tail_octets octets is_name = if is_name then lowered_octets octets else octets

-- two runs gave the same n octets
pub record Shares (n : ℕ) (old new other_old other_new : List ℕ) : Type 0 where
  pub shared : List ℕ
  pub count : length shared ≡ n
  pub left : old ≡ shared ++ new
  pub right : other_old ≡ shared ++ other_new

-- how many octets two lists begin with alike
abbrev pub common : List ℕ → List ℕ → ℕ
common [] ys = 0
common (x ∷ xs) [] = 0
common (x ∷ xs) (y ∷ ys) = if x == y then common xs ys + 1 else 0

-- the first n octets are at the front of a buffer, which is unchanged after them; the others are left
pub record HasCopied (n : ℕ) (old new buffer filled : List ℕ) : Type 0 where
  pub within : n ≤ length old
  pub room : n ≤ length buffer
  pub front : filled ≡ take n old ++ drop n buffer
  pub rest : new ≡ drop n old

-- as many as there are and fit
pub record Copies (n : ℕ) (old new buffer filled : List ℕ) : Type 0 where
  pub count : n ≡ min (length old) (length buffer)
  pub copied : HasCopied n old new buffer filled

-- how two lists are ordered by their next octets, where these tell it
abbrev pub next_order : Option ℕ → Option ℕ → Option Ordering
next_order None None = Some Equal
next_order None (Some y) = Some Less
next_order (Some x) None = Some Greater
next_order (Some x) (Some y) = if x == y then None else Some (nat_cmp x y)
