-- Lists with a comma between two items.
use Rattle.std.specs.Prelude.{ℕ, List, [], ◌∷◌, ◌++◌, flat_map, codes}

-- the texts of the items, with a comma between two
abbrev pub commas : {T : Type 0} → (T → List ℕ) → List T → List ℕ
commas text [] = []
commas text (x ∷ xs) = text x ++ flat_map (λ y. codes "," ++ text y) xs
