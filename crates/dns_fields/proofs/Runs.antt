-- Labels that stand in front of other octets.
use Rattle.std.proofs.Common.{◌≡◌, ℕ, ◌≤◌, List, [], ◌∷◌, ◌++◌, length, refl, sym, ◌∙◌, ap, append_assoc, arith}
use Rattle.std.proofs.lemmas.List.{append-nil}
use Rattle.dns_fields.specs.Labels.{IsLabel, AreLabels, wire}
use Rattle.dns_fields.proofs.Tlvs.{parts}

-- no length of a label
abbrev pub IsStop : ℕ → Type 0
IsStop z = 1 ≤ z → 64 ≤ z

pub wire-append : (a b : List (List ℕ)) → wire (a ++ b) ≡ wire a ++ wire b
wire-append [] b = refl
wire-append (l ∷ a) b = ap (λ (t : List ℕ). length l ∷ (l ++ t)) (wire-append a b) ∙ ap (λ (t : List ℕ). length l ∷ t) (sym (append_assoc l (wire a) (wire b)))

pub AreLabels-append : (a b : List (List ℕ)) → AreLabels a → AreLabels b → AreLabels (a ++ b)
AreLabels-append [] b h k = k
AreLabels-append (l ∷ a) b h k = (h.0, AreLabels-append a b h.1 k)

no_stop : (label : List ℕ) (z : ℕ) → IsLabel label → IsStop z → length label ≡ z → ⊥
no_stop label z h stop e = omega (arith, stop (omega (arith, h.0, e)), h.0, h.1, e)

pub record RestOf (front labels : List (List ℕ)) (s : List ℕ) (t : List ℕ) : Type 0 where
  pub rest : List (List ℕ)
  pub joined : labels ≡ front ++ rest
  pub are : AreLabels rest
  pub stands : s ≡ wire rest ++ t

-- labels that begin the same octets begin with the same labels
pub rest_of : (front labels : List (List ℕ)) (s b : List ℕ) (z : ℕ) → AreLabels front → AreLabels labels → IsStop z → wire front ++ s ≡ wire labels ++ z ∷ b
    → RestOf front labels s (z ∷ b)
rest_of [] labels s b z hf hl stop e = record { rest = labels; joined = refl; are = hl; stands = e }
rest_of (f ∷ front) [] s b z hf hl stop e = absurd (no_stop f z hf.0 stop cc)
rest_of (f ∷ front) (l ∷ labels) s b z hf hl stop e =
    let same : length f ≡ length l = cc in
    let tails : (f ++ wire front) ++ s ≡ (l ++ wire labels) ++ z ∷ b = cc in
    let halves = parts f (wire front ++ s) l (wire labels ++ z ∷ b) same
    (sym (append_assoc f (wire front) s) ∙ tails ∙ append_assoc l (wire labels) (z ∷ b)) in
    let r = rest_of front labels s b z hf.1 hl.1 stop halves.1 in
    let first : f ≡ l = halves.0 in
    let joined : labels ≡ front ++ r.rest = r.joined in
    record { rest = r.rest; joined = cc; are = r.are; stands = r.stands }

pub no_labels : (rest : List (List ℕ)) (s t : List ℕ) (z : ℕ) → AreLabels rest → IsStop z → z ∷ s ≡ wire rest ++ t → (rest ≡ []) × (z ∷ s ≡ t)
no_labels [] s t z h stop e = (refl, e)
no_labels (l ∷ rest) s t z h stop e = absurd (no_stop l z h.0 stop cc)

-- octets have one front of labels up to a stop
pub same_run : (front labels : List (List ℕ)) (a b : List ℕ) (y z : ℕ) → AreLabels front → AreLabels labels → IsStop y → IsStop z
    → wire front ++ y ∷ a ≡ wire labels ++ z ∷ b → (front ≡ labels) × (y ∷ a ≡ z ∷ b)
same_run front labels a b y z hf hl sy sz e =
    let r = rest_of front labels (y ∷ a) b z hf hl sz e in
    let n = no_labels r.rest a (z ∷ b) y r.are sy r.stands in
    let none : r.rest ≡ [] = n.0 in
    let j : labels ≡ front ++ r.rest = r.joined in
    let k : front ++ r.rest ≡ front = rw none (append-nil front) in
    (cc, n.1)
