-- The ranges of type numbers in the registry.
use Rattle.std.proofs.Common.{◌≡◌, ℕ, ◌<◌, ◌≤◌, List, Option, Some, None, IfSome, ◌∙◌, refl, arith}
use Rattle.std.proofs.lemmas.Bool.{ne_eqb, lt-ltb, le-ltb}
use Rattle.dns_registry.specs.declared.format.Format.{Format}
use Rattle.dns_registry.specs.{Formats.FormatRow, Formats.row_of_format, Registry.registry, Registry.row_among}
use Rattle.dns_registry.specs.Registry.{first_rows, second_rows, third_rows, fourth_rows, fifth_rows, last_rows}

-- a row that is found among others
pub found : (r : Option Format) {x y : Option FormatRow} → x ≡ y → IfSome r (λ f. y ≡ Some (row_of_format f)) → IfSome r (λ f. x ≡ Some (row_of_format f))
found None e h = tt
found (Some f) e h = e ∙ h

-- types whose RDATA does not choose among formats

module _ (n : ℕ) (octets : List ℕ) (j : n ≡ 38 → ⊥) (k : n ≡ 25 → ⊥) (a : n ≡ 45 → ⊥) (b : n ≡ 260 → ⊥) where
  pub in_first : n < 16 → registry n octets ≡ row_among first_rows n
  in_first h = rw (ne_eqb n 38 j, ne_eqb n 25 k, ne_eqb n 45 a, ne_eqb n 260 b, lt-ltb n 16 h) refl

  pub in_second : 16 ≤ n → n < 32 → registry n octets ≡ row_among second_rows n
  in_second l h = rw (ne_eqb n 38 j, ne_eqb n 25 k, ne_eqb n 45 a, ne_eqb n 260 b, le-ltb n 16 l, lt-ltb n 32 h) refl

  pub in_third : 32 ≤ n → n < 48 → registry n octets ≡ row_among third_rows n
  in_third l h = rw (ne_eqb n 38 j, ne_eqb n 25 k, ne_eqb n 45 a, ne_eqb n 260 b, le-ltb n 16 (omega (arith, l)), le-ltb n 32 l, lt-ltb n 48 h) refl

  pub in_fourth : 48 ≤ n → n < 64 → registry n octets ≡ row_among fourth_rows n
  in_fourth l h =
      rw (ne_eqb n 38 j, ne_eqb n 25 k, ne_eqb n 45 a, ne_eqb n 260 b, le-ltb n 16 (omega (arith, l)), le-ltb n 32 (omega (arith, l)), le-ltb n 48 l, lt-ltb n 64 h) refl

  pub in_fifth : 64 ≤ n → n < 256 → registry n octets ≡ row_among fifth_rows n
  in_fifth l h = rw (
    ne_eqb n 38 j,
    ne_eqb n 25 k,
    ne_eqb n 45 a,
    ne_eqb n 260 b,
    le-ltb n 16 (omega (arith, l)),
    le-ltb n 32 (omega (arith, l)),
    le-ltb n 48 (omega (arith, l)),
    le-ltb n 64 l,
    lt-ltb n 256 h,
  ) refl

  pub in_last : 256 ≤ n → registry n octets ≡ row_among last_rows n
  in_last l = rw (
    ne_eqb n 38 j,
    ne_eqb n 25 k,
    ne_eqb n 45 a,
    ne_eqb n 260 b,
    le-ltb n 16 (omega (arith, l)),
    le-ltb n 32 (omega (arith, l)),
    le-ltb n 48 (omega (arith, l)),
    le-ltb n 64 (omega (arith, l)),
    le-ltb n 256 l,
  ) refl
