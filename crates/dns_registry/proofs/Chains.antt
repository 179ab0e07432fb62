-- Octets that are items, one after the other: item by item.
use Rattle.std.proofs.Common.{◌≡◌, ℕ, ◌≤◌, ◌<◌, List, [], ◌∷◌, ◌++◌, length, refl, sym, ap, ◌∙◌, arith, length-append}
use Rattle.std.specs.List.{flat_map, AllByRecursion}
use Rattle.dns_fields.specs.Octets.{AreOctets}
use Rattle.dns_registry.specs.FieldRules.{AreAll}

-- the whole are items exactly if the rest are
pub record Left {X : Type 0} (item : X → List ℕ) (Fits : X → Type 0) (octets rest : List ℕ) : Type 0 where
  pub whole : AreAll item Fits rest → AreAll item Fits octets
  pub left : AreAll item Fits octets → AreAll item Fits rest
  pub octets_are : AreOctets rest

module _ {X : Type 0} (item : X → List ℕ) (Fits : X → Type 0) where
  pub all_left : (octets : List ℕ) → AreOctets octets → Left item Fits octets octets
  all_left octets a = record { whole = λ h. h; left = λ h. h; octets_are = a }

  -- an item has an octet at least, and octets begin with one item only
  abbrev pub HasSome : Type 0
  HasSome = (x : X) → Fits x → 1 ≤ length (item x)

  abbrev pub IsOne : Type 0
  IsOne = (x y : X) (a b : List ℕ) → Fits x → Fits y → item x ++ a ≡ item y ++ b → a ≡ b

  -- after an item
  pub after_one : HasSome → IsOne → (octets rest after : List ℕ) (x : X) → Left item Fits octets rest → Fits x → rest ≡ item x ++ after → AreOctets after
      → Left item Fits octets after
  after_one some one octets rest after x l fits e a = record {
    whole = λ h. l.whole (record { items = x ∷ h.items; spelled = e ∙ ap (λ (s : List ℕ). item x ++ s) h.spelled; fit = (fits, h.fit) });
    left = λ h. let r = l.left h in next r.items r.spelled r.fit;
    octets_are = a;
  }
    where
      next : (items : List X) → rest ≡ flat_map item items → AllByRecursion Fits items → AreAll item Fits after
      next [] r fit = absurd (omega (arith, some x fits, ap length (sym e ∙ r), length-append (item x) after))
      next (y ∷ ys) r fit = record { items = ys; spelled = one x y after (flat_map item ys) fits fit.0 (sym e ∙ r); fit = fit.1 }

  -- nothing is left
  pub none_left : (octets rest : List ℕ) → Left item Fits octets rest → length rest ≡ 0 → AreAll item Fits octets
  none_left octets [] l e = l.whole (record { items = []; spelled = refl; fit = tt })
  none_left octets (x ∷ rest) l e = absurd (omega (arith, e))

  -- no item is there
  pub no_item : (octets rest : List ℕ) → Left item Fits octets rest → 0 < length rest → ((x : X) (a : List ℕ) → Fits x → rest ≡ item x ++ a → ⊥)
      → AreAll item Fits octets → ⊥
  no_item octets rest l some none h = let r = l.left h in from r.items r.spelled r.fit
    where
      from : (items : List X) → rest ≡ flat_map item items → AllByRecursion Fits items → ⊥
      from [] r fit = omega (arith, some, ap length r)
      from (y ∷ ys) r fit = none y (flat_map item ys) fit.0 r
