-- Printable ASCII.
use Rattle.std.specs.{List.AllByRecursion, Prelude.ℕ, Prelude.◌≤◌, Prelude.List}

-- each octet is a blank or a graphic character of ASCII, so none is a line end
abbrev pub ArePrintable : List ℕ → Type 0
ArePrintable text = AllByRecursion (λ c. (32 ≤ c) × (c ≤ 126)) text
