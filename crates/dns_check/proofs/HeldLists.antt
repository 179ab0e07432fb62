-- Options or parameters that are encoded one after the other.
use Rattle.std.proofs.Common.{◌≡◌, ℕ, ◌+◌, ◌≤◌, List, [], ◌∷◌, length, get_or, refl, sym, ap, ◌∙◌, arith, subst}
use Rattle.std.proofs.lemmas.{List.get_or-drop, Nat.from_be_bytes-to_be_bytes_2}
use Rattle.std.specs.Int.{bytes_high_first, from_be_bytes, w16}
use Rattle.dns_fields.specs.{Octets.At, Tlvs.Numbered, Tlvs.IsTlv, Tlvs.AreTlvs, Tlvs.AllHeld, Tlvs.tlv, Tlvs.tlvs}
use Rattle.dns_fields.proofs.Tlvs.{length-tlv}
use Rattle.dns_names_wire.proofs.Strings.{at_front, at_rest}
use Rattle.dns_check.specs.Parameters.{IsTlvAt}
use Rattle.dns_check.proofs.Splits.{at_split}

-- they are encoded from p to q
abbrev pub StandEach : {T : Type 0} → (List ℕ → ℕ → T → ℕ → Type 0) → List ℕ → ℕ → List T → ℕ → Type 0
StandEach S m p [] q = p ≡ q
StandEach S m p (x ∷ xs) q = (r : ℕ) × S m p x r × StandEach S m r xs q

-- ---- one of them

-- number, length and the octets that hold its value
pub record OneHeld {V : Type 0} (Held : ℕ → List ℕ → V → Type 0) (m : List ℕ) (p : ℕ) (x : Numbered V) (q : ℕ) : Type 0 where
  pub octets : List ℕ
  pub at : At m p (tlv (x.0, octets)) q
  pub fits : IsTlv (x.0, octets)
  pub held : Held x.0 octets x.1

pub tlv_of : {V : Type 0} {Held : ℕ → List ℕ → V → Type 0} {m : List ℕ} {p q : ℕ} {x : Numbered V} (o : OneHeld Held m p x q) → IsTlvAt m p x.0 o.octets q
tlv_of o = record { at = o.at; fits = o.fits }

-- its number, and how many octets it has
module _ {m body : List ℕ} {offset key to n : ℕ} (o : IsTlvAt m offset key body to) where
  pub key_there : n ≡ from_be_bytes w16 (get_or m offset 0 ∷ get_or m (offset + 1) 0 ∷ []) → n ≡ key
  key_there e =
      let number = bytes_high_first 2 key in
      let front = sym (at_split o.at) in
      let here : offset + 0 ≡ offset = omega arith in
      let high : get_or number 0 0 ≡ get_or m offset 0 =
      ap (λ (s : List ℕ). get_or s 0 0) front ∙ get_or-drop offset m 0 0 ∙ ap (λ (i : ℕ). get_or m i 0) here in
      let low : get_or number 1 0 ≡ get_or m (offset + 1) 0 = ap (λ (s : List ℕ). get_or s 1 0) front ∙ get_or-drop offset m 1 0 in
      e ∙ (λ i. from_be_bytes w16 (sym high i ∷ sym low i ∷ [])) ∙ from_be_bytes-to_be_bytes_2 key o.fits.0

  pub size_there : n ≡ from_be_bytes w16 (get_or m (offset + 2) 0 ∷ get_or m (offset + 3) 0 ∷ []) → to ≡ offset + 4 + n
  size_there e =
      let size = bytes_high_first 2 (length body) in
      let front = sym (at_split o.at) in
      let high : get_or size 0 0 ≡ get_or m (offset + 2) 0 = ap (λ (s : List ℕ). get_or s 2 0) front ∙ get_or-drop offset m 2 0 in
      let low : get_or size 1 0 ≡ get_or m (offset + 3) 0 = ap (λ (s : List ℕ). get_or s 3 0) front ∙ get_or-drop offset m 3 0 in
      let same : n ≡ length body = e ∙ (λ i. from_be_bytes w16 (sym high i ∷ sym low i ∷ [])) ∙ from_be_bytes-to_be_bytes_2 (length body) o.fits.1 in
      omega (arith, o.at.ends, length-tlv (key, body), same)

-- ---- one after the other

pub held_each : {V : Type 0} (Held : ℕ → List ℕ → V → Type 0) {m : List ℕ} {e : ℕ} (p : ℕ) (read : List (Numbered (List ℕ))) (v : List (Numbered V))
    → At m p (tlvs read) e → AreTlvs read → AllHeld Held read v → StandEach (OneHeld Held) m p v e
held_each Held p [] [] a fit h = omega (arith, a.ends)
held_each Held p [] (x ∷ v) a fit h = absurd h
held_each Held p (y ∷ ys) [] a fit h = absurd h
held_each Held {m = m} p (y ∷ ys) (x ∷ v) a fit h =
    let q = p + length (tlv y) in
    let one : At m p (tlv (x.0, y.1)) q = subst (λ (k : ℕ). At m p (tlv (k, y.1)) q) h.0 (at_front (tlv y) (tlvs ys) a) in
    let fits : IsTlv (x.0, y.1) = (omega (arith, h.0, fit.0.0), fit.0.1) in
    (q, record { octets = y.1; at = one; fits = fits; held = h.1 }, held_each Held q ys v (at_rest (tlv y) (tlvs ys) a) fit.1 h.2)

-- the next one's end
pub record EndsAt (octets : List ℕ) (offset end : ℕ) : Type 0 where
  pub room : (offset + 4 ≤ end) × (end ≤ length octets)
  pub is : (key : ℕ) (body : List ℕ) (to : ℕ) → IsTlvAt octets offset key body to → end ≡ to

-- none is there
abbrev pub NoTlv : List ℕ → ℕ → Type 0
NoTlv octets offset = (key : ℕ) (body : List ℕ) (to : ℕ) → IsTlvAt octets offset key body to → ⊥

pub none_left : {V : Type 0} (Held : ℕ → List ℕ → V → Type 0) {octets : List ℕ} {offset : ℕ} (xs : List (Numbered V))
    → StandEach (OneHeld Held) octets offset xs (length octets) → NoTlv octets offset → xs ≡ []
none_left Held [] s none = refl
none_left Held (x ∷ xs) s none = absurd (none x.0 s.1.octets s.0 (tlv_of s.1))

-- the first of those that are left
pub record FirstOf {V : Type 0} (Held : ℕ → List ℕ → V → Type 0) (octets : List ℕ) (offset end : ℕ) (all : List (Numbered V)) : Type 0 where
  pub first : Numbered V
  pub rest : List (Numbered V)
  pub is : all ≡ first ∷ rest
  pub one : OneHeld Held octets offset first end
  pub stand : StandEach (OneHeld Held) octets end rest (length octets)

pub first_of : {V : Type 0} {Held : ℕ → List ℕ → V → Type 0} {octets : List ℕ} {offset end : ℕ} (xs : List (Numbered V))
    → StandEach (OneHeld Held) octets offset xs (length octets) → EndsAt octets offset end → FirstOf Held octets offset end xs
first_of [] s e = absurd (omega (arith, e.room.0, e.room.1, s))
first_of {Held = Held} {octets = octets} {offset = offset} (x ∷ xs) s e =
    let there = sym (e.is x.0 s.1.octets s.0 (tlv_of s.1)) in
    record {
      first = x;
      rest = xs;
      is = refl;
      one = subst (λ (k : ℕ). OneHeld Held octets offset x k) there s.1;
      stand = subst (λ (k : ℕ). StandEach (OneHeld Held) octets k xs (length octets)) there s.2;
    }
