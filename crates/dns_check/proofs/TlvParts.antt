-- Keys or codes, each with a length and so many octets, that fill octets.
use Rattle.std.proofs.Common.{◌≡◌, ℕ, zero, suc, ◌+◌, ◌^◌, ◌<◌, ◌≤◌, List, [], ◌∷◌, ◌++◌, length, take, drop, get_or, drop-cons, add-one}
use Rattle.std.proofs.Common.{refl, sym, ap, ◌∙◌, arith, subst}
use Rattle.std.proofs.lemmas.List.{length-append, length-take, length-drop, append-nil}
use Rattle.std.proofs.lemmas.{Nat.be_bytes_2, Grind.flat_map-append}
use Rattle.std.specs.Int.{bytes_high_first, from_be_bytes, w16}
use Rattle.dns_fields.specs.{Octets.At, Tlvs.Numbered, Tlvs.tlv, Tlvs.tlvs, Tlvs.IsTlv, Tlvs.AreTlvs}
use Rattle.dns_names_wire.proofs.Strings.{at_front, at_rest, at_then}
use Rattle.dns_check.specs.{Parameters.IsTlvAt, Tlvs.TlvThere, Tlvs.AreComplete, Tlvs.CompleteBy}
use Rattle.dns_check.proofs.Splits.{all_append}

-- the octets that are there from p on are at p
at_taken : (m : List ℕ) (p n q : ℕ) → q ≡ p + n → q ≤ length m → At m p (take n (drop p m)) q
at_taken m p n q e l =
    let len : length (take n (drop p m)) ≡ n = omega (arith, length-take n (drop p m), length-drop p m, l, e) in
    record { ends = omega (arith, len, e); within = l; same = ap (λ k. take k (drop p m)) len }

-- two octets are those of their number
number_there : (m : List ℕ) (p : ℕ) → ((i : ℕ) → get_or m i 0 < 256) → p + 2 ≤ length m
    → take 2 (drop p m) ≡ bytes_high_first 2 (from_be_bytes w16 (get_or m p 0 ∷ get_or m (p + 1) 0 ∷ []))
number_there m p small l = two ∙ sym (be_bytes_2 (get_or m p 0 ∷ get_or m (p + 1) 0 ∷ []) _ refl bound refl) where
  two : take 2 (drop p m) ≡ get_or m p 0 ∷ get_or m (p + 1) 0 ∷ []
  two = rw add-one (ap (take 2) (drop-cons m p 0 (omega (arith, l)) ∙ ap (λ (s : List ℕ). get_or m p 0 ∷ s) (drop-cons m (suc p) 0 (omega (arith, l)))))

  bound : (i : ℕ) → get_or (get_or m p 0 ∷ get_or m (p + 1) 0 ∷ []) i 0 < 256
  bound zero = small p
  bound (suc zero) = small (p + 1)
  bound (suc (suc i)) = omega arith

number_small : (a b : ℕ) → a < 256 → b < 256 → from_be_bytes w16 (a ∷ b ∷ []) < 256 ^ 2
number_small a b h k = omega (arith, h, k)

-- one is there if its octets are
pub part_there : (m : List ℕ) (offset n : ℕ) → ((i : ℕ) → get_or m i 0 < 256) → offset + 4 + n ≤ length m
    → n ≡ from_be_bytes w16 (get_or m (offset + 2) 0 ∷ get_or m (offset + 3) 0 ∷ []) → TlvThere m offset (offset + 4 + n)
part_there m offset n small l is =
    let code = from_be_bytes w16 (get_or m offset 0 ∷ get_or m (offset + 1) 0 ∷ []) in
    let x = take n (drop (offset + 4) m) in
    let len : length x ≡ n = omega (arith, length-take n (drop (offset + 4) m), length-drop (offset + 4) m, l) in
    let three : offset + 2 + 1 ≡ offset + 3 = omega arith in
    let first : take 2 (drop offset m) ≡ bytes_high_first 2 code = number_there m offset small (omega (arith, l)) in
    let second : take 2 (drop (offset + 2) m) ≡ bytes_high_first 2 (length x) = number_there m (offset + 2) small (omega (arith, l))
    ∙ ap (λ (k : ℕ). bytes_high_first 2 (from_be_bytes w16 (get_or m (offset + 2) 0 ∷ get_or m k 0 ∷ []))) three
    ∙ ap (bytes_high_first 2) (sym is ∙ sym len) in
    let a = at_taken m offset 2 (offset + 2) refl (omega (arith, l)) in
    let b = at_taken m (offset + 2) 2 (offset + 4) (omega arith) (omega (arith, l)) in
    let d = at_taken m (offset + 4) n (offset + 4 + n) refl l in
    let here : At m offset (tlv (code, x)) (offset + 4 + n) =
    subst (λ (o : List ℕ). At m offset (o ++ (bytes_high_first 2 (length x) ++ x)) (offset + 4 + n)) first
    (at_then a (subst (λ (o : List ℕ). At m (offset + 2) (o ++ x) (offset + 4 + n)) second (at_then b d))) in
    let count : n < 256 ^ 2 = subst (λ (k : ℕ). k < 256 ^ 2) (sym is)
    (number_small (get_or m (offset + 2) 0) (get_or m (offset + 3) 0) (small (offset + 2)) (small (offset + 3))) in
    record {
      key = code;
      body = x;
      is = record {
        at = here;
        fits = (
          number_small (get_or m offset 0) (get_or m (offset + 1) 0) (small offset) (small (offset + 1)),
          omega
              (arith, len, count),
        );
      };
    }

-- ---- part after part

pub record PartsOn (octets : List ℕ) (offset : ℕ) : Type 0 where
  pub inside : offset ≤ length octets
  pub read : List (Numbered (List ℕ))
  pub at : At octets 0 (tlvs read) offset
  pub fit : AreTlvs read
  pub only : AreComplete octets → (rest : List (Numbered (List ℕ))) × At octets offset (tlvs rest) (length octets) × AreTlvs rest

pub tlvs_more : (xs : List (Numbered (List ℕ))) (x : Numbered (List ℕ)) → tlvs xs ++ tlv x ≡ tlvs (xs ++ x ∷ [])
tlvs_more xs x = sym (flat_map-append tlv xs (x ∷ []) ∙ ap (λ (t : List ℕ). tlvs xs ++ t) (append-nil (tlv x)))

-- the first of those that are left
next_part : {octets : List ℕ} {offset : ℕ} (rest : List (Numbered (List ℕ))) → offset < length octets → At octets offset (tlvs rest) (length octets)
    → AreTlvs rest
    → (y : Numbered (List ℕ)) × (ys : List (Numbered (List ℕ))) × IsTlvAt octets offset y.0 y.1 (offset + length (tlv y))
    × At octets (offset + length (tlv y)) (tlvs ys) (length octets) × AreTlvs ys
next_part [] lt a f = absurd (omega (arith, a.ends))
next_part (y ∷ ys) lt a f = (y, ys, record { at = at_front (tlv y) (tlvs ys) a; fits = f.0 }, at_rest (tlv y) (tlvs ys) a, f.1)

-- and so many were gone over
pub record PartsCounted (octets : List ℕ) (count offset : ℕ) : Type 0 where
  pub on : PartsOn octets offset
  pub number : count ≡ length on.read
  pub few : count ≤ offset

pub parts_first : (octets : List ℕ) → PartsCounted octets 0 0
parts_first octets = record {
  on = record {
    inside = omega arith;
    read = [];
    at = record { ends = omega arith; within = omega arith; same = refl };
    fit = tt;
    only = λ c. (c.read, c.at, c.fit);
  };
  number = refl;
  few = omega arith;
}

pub parts_more : {octets : List ℕ} {count offset end : ℕ} → PartsCounted octets count offset → offset < length octets → end ≤ length octets → offset + 4 ≤ end
    → TlvThere octets offset end → ((key : ℕ) (body : List ℕ) (to : ℕ) → IsTlvAt octets offset key body to → end ≡ to) → PartsCounted octets (count + 1) end
parts_more {octets} {count} {offset} {end} c lt room long t is = record {
  on = record {
    inside = room;
    read = c.on.read ++ (t.key, t.body) ∷ [];
    at = subst (λ (o : List ℕ). At octets 0 o end) (tlvs_more c.on.read (t.key, t.body)) (at_then c.on.at t.is.at);
    fit = all_append IsTlv c.on.read ((t.key, t.body) ∷ []) c.on.fit (t.is.fits, tt);
    only = λ e.
        let r = c.on.only e in
        let x = next_part r.0 lt r.1 r.2 in
        let there : offset + length (tlv x.0) ≡ end = sym (is x.0.0 x.0.1 (offset + length (tlv x.0)) x.2) in
        (x.1, subst (λ (k : ℕ). At octets k (tlvs x.1) (length octets)) there x.3, x.4);
  };
  number = omega (arith, c.number, length-append c.on.read ((t.key, t.body) ∷ []));
  few = omega (arith, c.few, long);
}

-- the end is reached
pub parts_done : {octets : List ℕ} {count offset : ℕ} → PartsCounted octets count offset → length octets ≤ offset → CompleteBy octets count
parts_done {octets} {count} {offset} c past =
    let all : offset ≡ length octets = omega (arith, c.on.inside, past) in
    record { parts = record { read = c.on.read; at = subst (λ (q : ℕ). At octets 0 (tlvs c.on.read) q) all c.on.at; fit = c.on.fit }; number = c.number }

pub parts_stopped : {octets : List ℕ} {offset : ℕ} → PartsOn octets offset → offset < length octets
    → ((key : ℕ) (body : List ℕ) (to : ℕ) → IsTlvAt octets offset key body to → ⊥) → AreComplete octets → ⊥
parts_stopped {octets} {offset} p lt none c =
    let r = p.only c in
    let x = next_part r.0 lt r.1 r.2 in
    none x.0.0 x.0.1 (offset + length (tlv x.0)) x.2

-- no part follows those that fill the octets
pub parts_end : {octets : List ℕ} {offset : ℕ} → PartsOn octets offset → AreComplete octets
    → ((key : ℕ) (body : List ℕ) (to : ℕ) → IsTlvAt octets offset key body to → ⊥) → offset ≡ length octets
parts_end {octets} {offset} p c none = let r = p.only c in last r.0 r.1 r.2 where
  last : (rest : List (Numbered (List ℕ))) → At octets offset (tlvs rest) (length octets) → AreTlvs rest → offset ≡ length octets
  last [] a f = omega (arith, a.ends)
  last (y ∷ ys) a f = absurd (none y.0 y.1 (offset + length (tlv y)) (record { at = at_front (tlv y) (tlvs ys) a; fits = f.0 }))
