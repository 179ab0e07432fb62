-- A type's zone row is found by its number, in the code's list and in that of the definitions alike.
use Rattle.std.proofs.Common.{◌≡◌, ℕ, ◌==◌, Bool, true, false, List, [], ◌∷◌, map, Option, Some, None, refl, sym, ◌∙◌, ap}
use Rattle.std.specs.Option.{option_map}
use Rattle.dns_zone_rows.specs.{Registry.Registered, Registry.listed, RegistrySteps.first_row, RegistrySteps.numbered, RegistrySteps.listed_as}
use Rattle.dns_zone_rows.specs.{declared.registry.NumberedRow.NumberedRow, declared.zone_row.ZoneRow.ZoneRow}

pub found_same : {V : Type 0} (f : ZoneRow → V) (g : Registered → V) (rows : List NumberedRow) (types : List Registered) (n : ℕ)
    → map (numbered f) rows ≡ map (listed_as g) types → option_map f (first_row rows n) ≡ option_map g (listed types n)
found_same {V} f g [] [] n e = refl
found_same {V} f g [] (t ∷ types) n e = absurd (cc e)
found_same {V} f g (r ∷ rows) [] n e = absurd (cc e)
found_same {V} f g (r ∷ rows) (t ∷ types) n e = here (r.number == n) (t.number == n) refl refl (found_same f g rows types n others)
  where
    heads : numbered f r ≡ listed_as g t
    heads = cc

    numbers : r.number ≡ t.number
    numbers = ap (λ (p : ℕ × V). p.0) heads

    values : f r.zone_row ≡ g t
    values = ap (λ (p : ℕ × V). p.1) heads

    others : map (numbered f) rows ≡ map (listed_as g) types
    others = cc

    here : (a b : Bool) → r.number == n ≡ a → t.number == n ≡ b → option_map f (first_row rows n) ≡ option_map g (listed types n)
        → option_map f (first_row (r ∷ rows) n) ≡ option_map g (listed (t ∷ types) n)
    here true true p q behind = rw (p, q) (ap Some values)
    here false false p q behind = rw (p, q) (behind)
    here true false p q behind = let bad : true ≡ false = sym p ∙ ap (λ (k : ℕ). k == n) numbers ∙ q in absurd (cc bad)
    here false true p q behind = let bad : false ≡ true = sym p ∙ ap (λ (k : ℕ). k == n) numbers ∙ q in absurd (cc bad)
