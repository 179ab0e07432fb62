-- Address prefixes of APL.
use Rattle.std.proofs.Common.{◌≡◌, ℕ, suc, ◌+◌, ◌-◌, ◌*◌, ◌/◌, ◌%◌, ◌≤◌, ◌<◌, List, [], ◌∷◌, ◌++◌, length, take, drop, get_or, refl, sym, ap, ◌∙◌, arith}
use Rattle.std.proofs.Common.{length-append, take-append-drop}
use Rattle.std.proofs.lemmas.List.{length-take-le, take_at}
use Rattle.dns_registry.specs.FieldRules.{AddressPrefix, IsAddressPrefix, IsOfFamily, prefix_octets}
use Rattle.dns_registry.specs.PrefixSteps.{FirstPrefix, NoPrefix}
use Rattle.dns_registry.proofs.Chains.{HasSome, IsOne}
use Rattle.dns_registry.proofs.ShortestBitmaps.{same_parts}

pub some_octets : HasSome prefix_octets IsAddressPrefix
some_octets x fits = omega arith

pub one_prefix : IsOne prefix_octets IsAddressPrefix
one_prefix x y a b f g e =
    let bits : 128 * x.negated + length x.part ≡ 128 * y.negated + length y.part = ap (λ (s : List ℕ). get_or s 3 0) e in
    let n : length x.part ≡ length y.part = omega (arith, bits, f.short, g.short, f.negated, g.negated) in
    (same_parts a b x.part y.part n (ap (drop 4) e)).1

-- ---- the first one

-- its family, its prefix and its octets
abbrev pub family_of : List ℕ → ℕ
family_of octets = get_or octets 0 0 * 256 + get_or octets 1 0

abbrev pub count_of : List ℕ → ℕ
count_of octets = get_or octets 3 0 % 128

pub first_prefix : (octets : List ℕ) → ((i : ℕ) → get_or octets i 0 < 256) → 4 ≤ length octets → count_of octets ≤ length octets - 4
    → IsOfFamily (family_of octets) (get_or octets 2 0) (take (count_of octets) (drop 4 octets)) → FirstPrefix octets (4 + count_of octets)
first_prefix [] small long fits limits = absurd (omega (arith, long))
first_prefix (a ∷ []) small long fits limits = absurd (omega (arith, long))
first_prefix (a ∷ b ∷ []) small long fits limits = absurd (omega (arith, long))
first_prefix (a ∷ b ∷ c ∷ []) small long fits limits = absurd (omega (arith, long))
first_prefix (a ∷ b ∷ c ∷ d ∷ xs) small long fits limits =
    let n = d % 128 in
    let size : length (take n xs) ≡ n = length-take-le n xs (omega (arith, fits)) in
    let behind : 4 + n ≡ suc (suc (suc (suc n))) = omega arith in
    let lowest = small 1 in
    let third = small 2 in
    let last = small 3 in
    let first = small 0 in
    let high : (a * 256 + b) / 256 ≡ a = omega (arith, lowest) in
    let low : (a * 256 + b) % 256 ≡ b = omega (arith, lowest) in
    let bits : 128 * (d / 128) + length (take n xs) ≡ d = omega (arith, size) in
    record {
      first = record { family = a * 256 + b; prefix = c; negated = d / 128; part = take n xs };
      fits = record {
        family = omega (arith, first, lowest);
        prefix = third;
        negated = omega (arith, last);
        short = omega (arith, size);
        limits = limits;
      };
      spelled = rw (high, low, bits, behind) (ap (λ (s : List ℕ). a ∷ b ∷ c ∷ d ∷ s) (sym (take-append-drop n xs)));
      some = omega arith;
      within = omega (arith, fits, long);
    }

-- why there is none
prefix_length : (x : AddressPrefix) (rest octets : List ℕ) → octets ≡ prefix_octets x ++ rest → length octets ≡ 4 + length x.part + length rest
prefix_length x rest octets e = omega (arith, ap length e, length-append x.part rest)

prefix_count : (x : AddressPrefix) (rest octets : List ℕ) → IsAddressPrefix x → octets ≡ prefix_octets x ++ rest → count_of octets ≡ length x.part
prefix_count x rest octets fits e =
    let bits : get_or octets 3 0 ≡ 128 * x.negated + length x.part = ap (λ (s : List ℕ). get_or s 3 0) e in
    omega (arith, bits, fits.short)

pub few_octets : (octets : List ℕ) → length octets < 4 → NoPrefix octets
few_octets octets h = record { none = λ x rest fits e. omega (arith, h, prefix_length x rest octets e) }

pub fewer_octets : (octets : List ℕ) → length octets - 4 < count_of octets → NoPrefix octets
fewer_octets octets h = record { none = λ x rest fits e. omega (arith, h, prefix_length x rest octets e, prefix_count x rest octets fits e) }

-- the octets of a slice from 4 on
pub part_is : (octets : List ℕ) → take (4 + count_of octets - 4) (drop 4 octets) ≡ take (count_of octets) (drop 4 octets)
part_is octets = let n : 4 + count_of octets - 4 ≡ count_of octets = omega arith in ap (λ (k : ℕ). take k (drop 4 octets)) n

pub other_family : (octets : List ℕ) → (IsOfFamily (family_of octets) (get_or octets 2 0) (take (4 + count_of octets - 4) (drop 4 octets)) → ⊥) → NoPrefix octets
other_family octets h = record {
  none = λ x rest fits e.
      let count = prefix_count x rest octets fits e in
      let high : get_or octets 0 0 ≡ x.family / 256 = ap (λ (s : List ℕ). get_or s 0 0) e in
      let low : get_or octets 1 0 ≡ x.family % 256 = ap (λ (s : List ℕ). get_or s 1 0) e in
      let family : family_of octets ≡ x.family = omega (arith, high, low) in
      let prefix : get_or octets 2 0 ≡ x.prefix = ap (λ (s : List ℕ). get_or s 2 0) e in
      let part : take (count_of octets) (drop 4 octets) ≡ x.part =
      ap (λ (k : ℕ). take k (drop 4 octets)) count ∙ ap (λ (s : List ℕ). take (length x.part) (drop 4 s)) e ∙ take_at x.part rest (length x.part) refl in
      h (rw (part_is octets, family, prefix, part) fits.limits);
}
