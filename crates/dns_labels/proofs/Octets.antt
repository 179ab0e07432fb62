-- A name's octets and its labels.
use Rattle.std.proofs.Common.{◌≡◌, ℕ, zero, suc, ◌+◌, ◌≤◌, List, [], ◌∷◌, ◌++◌, length, take, drop, get_or, refl, sym, ◌∙◌, ap, arith, length-append}
use Rattle.std.proofs.lemmas.List.{take_at, drop_at, take-append-drop, drop-drop}
use Rattle.dns_fields.specs.Labels.{IsLabel, AreLabels, wire, FitsName}
use Rattle.dns_fields.proofs.Runs.{wire-append}
use Rattle.dns_labels.specs.Labels.{labels_in, labels_of, AreNameOctets}

labels_in-wire : (more : ℕ) (labels : List (List ℕ)) → length (wire labels) ≤ more → labels_in more (wire labels) ≡ labels
labels_in-wire zero [] h = refl
labels_in-wire zero (l ∷ labels) h = absurd (omega arith)
labels_in-wire (suc more) [] h = refl
labels_in-wire (suc more) (l ∷ labels) h =
    let t : take (length l) (l ++ wire labels) ≡ l = take_at l (wire labels) (length l) refl in
    let d : drop (length l) (l ++ wire labels) ≡ wire labels = drop_at l (wire labels) (length l) refl in
    rw (t, d) (ap (λ (r : List (List ℕ)). l ∷ r) (labels_in-wire more labels (omega (arith, length-append l (wire labels)))))

-- what stands at an offset, and what is behind it
pub cut_off : (message : List ℕ) (offset n : ℕ) {part : List ℕ} → take n (drop offset message) ≡ part → drop offset message ≡ part ++ drop (offset + n) message
cut_off message offset n {part} e = sym (take-append-drop n (drop offset message)) ∙ ap (λ (x : List ℕ). x ++ drop n (drop offset message)) e
    ∙ ap (λ (x : List ℕ). part ++ x) (drop-drop n offset message)

-- octets of labels in two parts
pub wire_length : {labels : List (List ℕ)} (front rest : List (List ℕ)) → labels ≡ front ++ rest
    → length (wire labels) ≡ length (wire front) + length (wire rest)
wire_length front rest e = ap (λ (x : List (List ℕ)). length (wire x)) e ∙ ap length (wire-append front rest) ∙ length-append (wire front) (wire rest)

pub second_is : (front : List (List ℕ)) (label : List ℕ) (others : List (List ℕ)) → AreLabels (front ++ (label ∷ others)) → IsLabel label
second_is [] label others h = h.0
second_is (l ∷ front) label others h = second_is front label others h.1

pub labels_of-wire : (labels : List (List ℕ)) → labels_of (wire labels) ≡ labels
labels_of-wire labels = labels_in-wire (length (wire labels)) labels (omega arith)

pub same_wire : (a b : List (List ℕ)) → wire a ≡ wire b → a ≡ b
same_wire a b e = sym (labels_of-wire a) ∙ ap (λ (x : List ℕ). labels_of x) e ∙ labels_of-wire b

pub labels_from : (octets : List ℕ) (labels : List (List ℕ)) → octets ≡ wire labels → labels_of octets ≡ labels
labels_from octets labels e = rw e (labels_of-wire labels)

pub are_name_octets : (octets : List ℕ) (labels : List (List ℕ)) → AreLabels labels → FitsName labels → octets ≡ wire labels → AreNameOctets octets
are_name_octets octets labels are fits e =
    let l : labels_of octets ≡ labels = labels_from octets labels e in
    record { are = rw l are; same = e ∙ ap (λ (x : List (List ℕ)). wire x) (sym l); room = omega (arith, ap length e) }

-- the first label and the others
pub record FirstLabel (octets : List ℕ) (count : ℕ) : Type 0 where
  pub others : AreNameOctets (drop (count + 1) octets)
  pub split : labels_of octets ≡ take count (drop 1 octets) ∷ labels_of (drop (count + 1) octets)

first_from : (octets : List ℕ) (labels : List (List ℕ)) → AreLabels labels → octets ≡ wire labels → length octets ≤ 254 → 1 ≤ length octets
    → FirstLabel octets (get_or octets 0 0)
first_from octets [] h e room some = absurd (omega (arith, ap length e))
first_from octets (l ∷ labels) h e room some =
    let split : labels_of octets ≡ l ∷ labels = labels_from octets (l ∷ labels) e in
    let n : get_or octets 0 0 ≡ length l = ap (λ (o : List ℕ). get_or o 0 0) e in
    let t : drop (length l + 1) octets ≡ wire labels = ap (λ (o : List ℕ). drop (length l + 1) o) e
    ∙ drop_at (length l ∷ l) (wire labels) (length l + 1) (omega arith) in
    let f : take (length l) (drop 1 octets) ≡ l = ap (λ (o : List ℕ). take (length l) (drop 1 o)) e ∙ take_at l (wire labels) (length l) refl in
    let u : labels_of (drop (length l + 1) octets) ≡ labels = labels_from (drop (length l + 1) octets) labels t in
    let size = ap length e in
    let r : FirstLabel octets (length l) = record {
      others = are_name_octets (drop (length l + 1) octets) labels h.1 (omega (arith, size, length-append l (wire labels))) t;
      split = split ∙ ap (λ (x : List ℕ). x ∷ labels) (sym f) ∙ ap (λ (x : List (List ℕ)). take (length l) (drop 1 octets) ∷ x) (sym u);
    } in
    rw n r

pub first_label : (octets : List ℕ) → AreNameOctets octets → 1 ≤ length octets → FirstLabel octets (get_or octets 0 0)
first_label octets n some = first_from octets (labels_of octets) n.are n.same n.room some

few_labels : (labels : List (List ℕ)) → AreLabels labels → length labels + length labels ≤ length (wire labels)
few_labels [] h = omega arith
few_labels (l ∷ labels) h = let lo : 1 ≤ length l = h.0.0 in omega (arith, few_labels labels h.1, length-append l (wire labels))

-- a name has at most 127 labels
pub count_labels : (octets : List ℕ) → AreNameOctets octets → length (labels_of octets) ≤ 127
count_labels octets n = omega (arith, few_labels (labels_of octets) n.are, ap length n.same, n.room)
