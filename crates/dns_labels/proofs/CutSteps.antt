-- The steps by which a name is cut into labels to be written and a tail.
use Rattle.std.proofs.lemmas.List.{append-nil, drop-drop, take_all, drop_all, take_at, drop_at, get_or-drop, take-append-drop}
use Rattle.std.proofs.{Common.length-append, Common.length-drop, Math.Seq.take-add}
use Rattle.std.proofs.Common.{◌≡◌, ℕ, ◌+◌, ◌<◌, ◌≤◌, List, [], ◌∷◌, ◌++◌, length, take, drop, get_or, Option, Some, None, refl, sym, ◌∙◌, ap, subst, arith}
use Rattle.dns_fields.specs.{Names.LabelsStand.whole, Names.LabelsStand.pointed, Names.LabelsStand, Names.pointer, Labels.AreLabels, Labels.wire}
use Rattle.dns_labels.specs.{Emission.StandsFor, Emission.CutAt, Emission.IsNameCut, Emission.LeadsTo, Labels.AreNameOctets, Labels.labels_of}
use Rattle.dns_labels.specs.Reading.{stop_octets}
use Rattle.dns_fields.proofs.{Runs.wire-append, Runs.AreLabels-append, Stays.stands_before}
use Rattle.dns_labels.proofs.Octets.{same_wire}

pub cut_start : (octets : List ℕ) (labels : List (List ℕ)) → AreLabels labels → octets ≡ wire labels → CutAt octets 0
cut_start octets labels are is =
    record { front = []; rest = labels; are_front = tt; are_rest = are; front_is = refl; rest_is = is; within = omega arith }

pub cut_none : (octets : List ℕ) → AreNameOctets octets → CutAt octets 0
cut_none octets n = cut_start octets (labels_of octets) n.are n.same

-- no tail was found
pub cut_all : (message octets : List ℕ) (cut : ℕ) → CutAt octets cut → length octets ≤ cut → IsNameCut message octets cut None
cut_all message octets cut k past =
    let none : wire [] ≡ wire k.rest = sym (drop_all cut octets past) ∙ k.rest_is in
    record { cut = k; leads = sym (same_wire [] k.rest none) }

not_empty : (labels : List (List ℕ)) → 1 ≤ length (wire labels) → 1 ≤ length labels
not_empty [] h = absurd (omega arith)
not_empty (l ∷ labels) h = omega arith

-- a tail was found
pub cut_found : (message octets : List ℕ) (cut target : ℕ) → CutAt octets cut → cut < length octets → target < 16384
    → StandsFor message target (drop cut octets) → IsNameCut message octets cut (Some target)
cut_found message octets cut target k some low s =
    let same : s.labels ≡ k.rest = same_wire s.labels k.rest (sym s.same ∙ k.rest_is) in
    record {
      cut = k;
      leads = (
        low,
        not_empty k.rest (omega (arith, length-drop cut octets, ap length k.rest_is)),
        (s.end, subst (λ (x : List (List ℕ)). LabelsStand message target x s.end) same s.stands),
      );
    }

-- the whole name was found
pub whole_found : (message octets : List ℕ) (target : ℕ) → AreNameOctets octets → 0 < length octets → target < 16384 → StandsFor message target octets
    → IsNameCut message octets 0 (Some target)
whole_found message octets target n some low s = cut_found message octets 0 target (cut_none octets n) some low s

cut_next : (octets : List ℕ) (cut : ℕ) (front rest : List (List ℕ)) → AreLabels front → AreLabels rest → take cut octets ≡ wire front
    → drop cut octets ≡ wire rest → cut < length octets → CutAt octets (cut + (get_or octets cut 0 + 1))
cut_next octets cut front [] hf hr tf dr some = absurd (omega (arith, length-drop cut octets, ap length dr))
cut_next octets cut front (l ∷ rest) hf hr tf dr some =
    let n : get_or octets cut 0 ≡ length l = sym (get_or-drop cut octets 0 0 ∙ ap (λ (i : ℕ). get_or octets i 0) (omega arith))
    ∙ ap (λ (x : List ℕ). get_or x 0 0) dr in
    let part : take (length l + 1) (wire (l ∷ rest)) ≡ length l ∷ l = take_at (length l ∷ l) (wire rest) (length l + 1) (omega arith) in
    let left : drop (length l + 1) (wire (l ∷ rest)) ≡ wire rest = drop_at (length l ∷ l) (wire rest) (length l + 1) (omega arith) in
    let one : wire (l ∷ []) ≡ length l ∷ l = ap (λ (t : List ℕ). length l ∷ t) (append-nil l) in
    let t : take (cut + (length l + 1)) octets ≡ wire front ++ wire (l ∷ []) =
    take-add cut (length l + 1) octets ∙ rw (tf, dr, one) (ap (λ (x : List ℕ). wire front ++ x) part) in
    let d : drop (cut + (length l + 1)) octets ≡ wire rest = sym (drop-drop (length l + 1) cut octets) ∙ ap (λ (x : List ℕ). drop (length l + 1) x) dr ∙ left in
    rw n (record {
      front = front ++ l ∷ [];
      rest = rest;
      are_front = AreLabels-append front (l ∷ []) hf (hr.0, tt);
      are_rest = hr.1;
      front_is = t ∙ sym (wire-append front (l ∷ []));
      rest_is = d;
      within = omega (arith, length-drop cut octets, ap length dr, length-append l (wire rest));
    })

pub cut_more : (octets : List ℕ) (cut : ℕ) → CutAt octets cut → cut < length octets → CutAt octets (cut + (get_or octets cut 0 + 1))
cut_more octets cut k some = cut_next octets cut k.front k.rest k.are_front k.are_rest k.front_is k.rest_is some

-- the whole name, with no tail elsewhere
pub cut_whole : (message octets : List ℕ) → AreNameOctets octets → IsNameCut message octets (length octets) None
cut_whole message octets n = record {
  cut = record {
    front = labels_of octets;
    rest = [];
    are_front = n.are;
    are_rest = tt;
    front_is = take_all (length octets) octets (omega arith) ∙ n.same;
    rest_is = drop_all (length octets) octets (omega arith);
    within = omega arith;
  };
  leads = refl;
}

long_enough : (labels : List (List ℕ)) → AreLabels labels → 1 ≤ length labels → 2 ≤ length (wire labels)
long_enough [] h n = absurd (omega arith)
long_enough (l ∷ labels) h n = let lo : 1 ≤ length l = h.0.0 in omega (arith, length-append l (wire labels))

pub cut_short : (message octets : List ℕ) (cut : ℕ) (target : Option ℕ) → IsNameCut message octets cut target
    → cut + length (stop_octets target) ≤ length octets + 1
cut_short message octets cut None k = omega (arith, k.cut.within)
cut_short message octets cut (Some t) k =
    omega (arith, k.cut.within, length-drop cut octets, ap length k.cut.rest_is, long_enough k.cut.rest k.cut.are_rest k.leads.1)

leads_stands : (old new : List ℕ) (front rest : List (List ℕ)) (target : Option ℕ) → AreLabels front → new ≡ old ++ (wire front ++ stop_octets target)
    → LeadsTo old target rest → LabelsStand new (length old) (front ++ rest) (length new)
leads_stands old new front rest None hf e leads =
    let d : drop (length old) new ≡ wire front ++ 0 ∷ [] = ap (λ (x : List ℕ). drop (length old) x) e ∙ drop_at old (wire front ++ 0 ∷ []) (length old) refl in
    let j : front ++ rest ≡ front = ap (λ (x : List (List ℕ)). front ++ x) leads ∙ append-nil front in
    let s : LabelsStand new (length old) front (length new) =
    whole [] hf d (omega (arith, ap length e, length-append old (wire front ++ 0 ∷ []), length-append (wire front) (0 ∷ []))) in
    rw j s
leads_stands old new front rest (Some t) hf e leads =
    let x : List ℕ = wire front ++ pointer t in
    let d : drop (length old) new ≡ wire front ++ (pointer t ++ []) = ap (λ (y : List ℕ). drop (length old) y) e ∙ drop_at old x (length old) refl in
    let k : take (length old) new ≡ old = ap (λ (y : List ℕ). take (length old) y) e ∙ take_at old x (length old) refl in
    let s : LabelsStand (take (length old) new) t rest leads.2.0 = subst (λ (m : List ℕ). LabelsStand m t rest leads.2.0) (sym k) leads.2.1 in
    pointed front rest t leads.2.0 [] hf d leads.0 (stands_before leads.2.1) s refl
    (omega (arith, ap length e, length-append old x, length-append (wire front) (pointer t)))

-- the octets up to the cut, and what ends them, stand for all of the labels
pub cut_stands : {old new octets : List ℕ} {cut : ℕ} {target : Option ℕ} → AreNameOctets octets → IsNameCut old octets cut target
    → new ≡ old ++ (take cut octets ++ stop_octets target) → LabelsStand new (length old) (labels_of octets) (length new)
cut_stands {old} {new} {octets} {cut} {target} n is e =
    let k = is.cut in
    let f : new ≡ old ++ (wire k.front ++ stop_octets target) = e ∙ ap (λ (x : List ℕ). old ++ (x ++ stop_octets target)) k.front_is in
    let w : wire (k.front ++ k.rest) ≡ octets =
    wire-append k.front k.rest ∙ rw (← k.front_is, ← k.rest_is) (take-append-drop cut octets) in
    let l : k.front ++ k.rest ≡ labels_of octets = same_wire (k.front ++ k.rest) (labels_of octets) (w ∙ n.same) in
    subst (λ (x : List (List ℕ)). LabelsStand new (length old) x (length new)) l (leads_stands old new k.front k.rest target k.are_front f is.leads)
