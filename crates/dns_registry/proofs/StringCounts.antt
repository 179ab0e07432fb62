-- How many character strings fill octets.
use Rattle.std.proofs.Common.{◌≡◌, ℕ, suc, ◌+◌, ◌≤◌, ◌<◌, List, [], ◌∷◌, length, drop, get_or, refl, sym, ap, ◌∙◌, arith}
use Rattle.std.proofs.lemmas.List.{drop-drop, drop_at, get_or-drop, length-drop}
use Rattle.std.specs.List.{flat_map}
use Rattle.dns_fields.specs.Tlvs.{string}

-- of strings that fill the octets, so many end before the offset
pub record Counted (octets : List ℕ) (offset count : ℕ) (v : List (List ℕ)) : Type 0 where
  pub left : List (List ℕ)
  pub rest : drop offset octets ≡ flat_map string left
  pub all : length v ≡ count + length left

pub none_counted : (octets : List ℕ) (v : List (List ℕ)) → octets ≡ flat_map string v → Counted octets 0 0 v
none_counted octets v e = record { left = v; rest = e; all = omega arith }

after_string : (octets : List ℕ) (offset : ℕ) (s : List ℕ) (ss : List (List ℕ)) → drop offset octets ≡ flat_map string (s ∷ ss)
    → drop (offset + (get_or octets offset 0 + 1)) octets ≡ flat_map string ss
after_string octets offset s ss e =
    let size : get_or octets offset 0 ≡ length s = sym (ap (λ (i : ℕ). get_or octets i 0) (omega arith)) ∙ sym (get_or-drop offset octets 0 0)
    ∙ ap (λ (l : List ℕ). get_or l 0 0) e in
    let sum : offset + (get_or octets offset 0 + 1) ≡ offset + suc (length s) = omega (arith, size) in
    ap (λ (i : ℕ). drop i octets) sum ∙ sym (drop-drop (suc (length s)) offset octets) ∙ ap (drop (suc (length s))) e
    ∙ drop_at s (flat_map string ss) (length s) refl

pub one_more : (octets : List ℕ) (offset count : ℕ) (v : List (List ℕ)) → offset < length octets → Counted octets offset count v
    → Counted octets (offset + (get_or octets offset 0 + 1)) (count + 1) v
one_more octets offset count v some c = by c.left c.rest c.all
  where
    by : (left : List (List ℕ)) → drop offset octets ≡ flat_map string left → length v ≡ count + length left
        → Counted octets (offset + (get_or octets offset 0 + 1)) (count + 1) v
    by [] e n = absurd (omega (arith, ap length e, length-drop offset octets, some))
    by (s ∷ ss) e n = record { left = ss; rest = after_string octets offset s ss e; all = omega (arith, n) }

pub all_counted : (octets : List ℕ) (offset count : ℕ) (v : List (List ℕ)) → length octets ≤ offset → Counted octets offset count v → count ≡ length v
all_counted octets offset count v last c = by c.left c.rest c.all
  where
    by : (left : List (List ℕ)) → drop offset octets ≡ flat_map string left → length v ≡ count + length left → count ≡ length v
    by [] e n = omega (arith, n)
    by (s ∷ ss) e n = absurd (omega (arith, ap length e, length-drop offset octets, last))
