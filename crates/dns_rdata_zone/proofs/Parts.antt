-- What is true of a text if it is true of its parts.
use Rattle.std.proofs.Common.{◌≡◌, ℕ, ◌+◌, ◌/◌, ◌%◌, ◌<◌, Bool, true, false, cond, eqb, ◌||◌, ◌&&◌, nat_le, List, [], ◌∷◌, ◌++◌, refl, arith}
use Rattle.std.specs.{Prelude.flat_map, Prelude.codes, List.AllByRecursion}
use Rattle.std.proofs.lemmas.List.Elements.{All-head, All-tail}
use Rattle.dns_fields.specs.Octets.{AreOctets}
use Rattle.dns_rdata_zone.specs.{Names.zone_label, Spellings.escaped, Spellings.three_digits, Spellings.needs_backslash, Spellings.name_octet}

-- true of no octets, and of two texts one after the other
pub record ByParts (P : List ℕ → Type 0) : Type 0 where
  pub none : P []
  pub both : (a b : List ℕ) → P a → P b → P (a ++ b)

pub by_test : (P : List ℕ → Type 0) (b : Bool) (x y : List ℕ) → (b ≡ true → P x) → (b ≡ false → P y) → P (cond b x y)
by_test P true x y h k = h refl
by_test P false x y h k = k refl

-- an octet of a label: after a `\`, as it is, or as a number
pub name_octet_by : (P : List ℕ → Type 0) (c : ℕ) → (needs_backslash c ≡ true → P (92 ∷ c ∷ []))
    → (needs_backslash c ≡ false → nat_le 33 c && nat_le c 126 ≡ true → P (c ∷ [])) → P (three_digits c) → P (name_octet c)
name_octet_by P c two one digits =
    by_test P (needs_backslash c) _ _ two (λ e. by_test P (nat_le 33 c && nat_le c 126) _ _ (one e) (λ f. digits))

-- and one in quotes
pub escaped_by : (P : List ℕ → Type 0) (c : ℕ) → (eqb c 34 || eqb c 92 ≡ true → P (92 ∷ c ∷ []))
    → (eqb c 34 || eqb c 92 ≡ false → nat_le 32 c && nat_le c 126 ≡ true → P (c ∷ [])) → P (three_digits c) → P (escaped c)
escaped_by P c two one digits =
    by_test P (eqb c 34 || eqb c 92) _ _ two (λ e. by_test P (nat_le 32 c && nat_le c 126) _ _ (one e) (λ f. digits))

pub octets_each : (s : List ℕ) → AreOctets s → AllByRecursion (λ c. c < 256) s
octets_each [] h = tt
octets_each (c ∷ s) h = (All-head (λ x. x < 256) c s h, octets_each s (All-tail (λ x. x < 256) c s h))

module _ {P : List ℕ → Type 0} (parts : ByParts P) where
  pub single_parts : {Q : ℕ → Type 0} → ((c : ℕ) → Q c → P (c ∷ [])) → (s : List ℕ) → AllByRecursion Q s → P s
  single_parts one [] h = parts.none
  single_parts one (c ∷ s) h = parts.both (c ∷ []) s (one c h.0) (single_parts one s h.1)

  flat_parts : {X : Type 0} {Q : X → Type 0} (f : X → List ℕ) → ((x : X) → Q x → P (f x)) → (xs : List X) → AllByRecursion Q xs → P (flat_map f xs)
  flat_parts f one [] h = parts.none
  flat_parts f one (x ∷ xs) h = parts.both (f x) (flat_map f xs) (one x h.0) (flat_parts f one xs h.1)

  pub octet_parts : (f : ℕ → List ℕ) → ((c : ℕ) → c < 256 → P (f c)) → (s : List ℕ) → AreOctets s → P (flat_map f s)
  octet_parts f one s h = flat_parts f one s (octets_each s h)

  pub digit_parts : (c : ℕ) → c < 256 → P (92 ∷ (48 + c / 100) ∷ []) → ((d : ℕ) → d < 10 → P ((48 + d) ∷ [])) → P (three_digits c)
  digit_parts c h first one = parts.both (92 ∷ (48 + c / 100) ∷ []) _ first
      (parts.both ((48 + c / 10 % 10) ∷ []) _ (one (c / 10 % 10) (omega arith)) (one (c % 10) (omega arith)))

  pub label_parts : ((c : ℕ) → c < 256 → P (name_octet c)) → P (codes ".") → (s : List ℕ) → AreOctets s → P (zone_label s)
  label_parts one dot s h = parts.both (flat_map name_octet s) (codes ".") (octet_parts name_octet one s h) dot

  pub labels_parts : ((c : ℕ) → c < 256 → P (name_octet c)) → P (codes ".") → (ls : List (List ℕ)) → AllByRecursion AreOctets ls → P (flat_map zone_label ls)
  labels_parts one dot ls h = flat_parts zone_label (label_parts one dot) ls h
