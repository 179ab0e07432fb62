-- The steps by which a name is found to be in a zone.
use Rattle.std.proofs.Common.{◌≡◌, ◌↔◌, IsTrue, ℕ, Bool, ◌<◌, ◌≤◌, List, [], ◌∷◌, ◌++◌, length, map, drop, sym, ap, ◌∙◌, arith, append_assoc}
use Rattle.std.proofs.lemmas.List.{length-append, length-map}
use Rattle.std.specs.Char.{to_ascii_lowercase}
use Rattle.dns_fields.specs.Labels.{DomainName, wire, low_labels}
use Rattle.dns_labels.specs.Labels.{AreNameOctets, labels_of, name_of}
use Rattle.dns_names_wire.specs.NameValues.{IsInZone}
use Rattle.dns_names_wire.proofs.Building.{wire_low, octets_low}

pub record ZoneSoFar (labels zone : List (List ℕ)) (rest : List ℕ) : Type 0 where
  pub are : AreNameOctets rest
  pub front : List (List ℕ)
  pub sound : low_labels labels ≡ front ++ low_labels (labels_of rest)
  pub complete : (f : List (List ℕ)) → low_labels labels ≡ f ++ low_labels zone → (g : List (List ℕ)) × (low_labels (labels_of rest) ≡ g ++ low_labels zone)

low_size : (octets : List ℕ) → AreNameOctets octets → length (wire (low_labels (labels_of octets))) ≡ length octets
low_size octets n = sym (ap length (wire_low octets n)) ∙ length-map octets to_ascii_lowercase

-- what is behind the first label of labels that end as the zone's and are more of them
behind_first : (all zone : List (List ℕ)) (f : List (List ℕ)) → length (wire (low_labels zone)) < length (wire (low_labels all))
    → low_labels all ≡ f ++ low_labels zone → (g : List (List ℕ)) × (low_labels (drop 1 all) ≡ g ++ low_labels zone)
behind_first [] zone f h e = absurd (omega arith)
behind_first (l ∷ all) zone [] h e = absurd (omega (arith, h, ap (λ (x : List (List ℕ)). length (wire x)) e))
behind_first (l ∷ all) zone (x ∷ f) h e = (f, ap (λ (y : List (List ℕ)). drop 1 y) e)

first_front : (all front whole : List (List ℕ)) → 1 ≤ length (wire all) → whole ≡ front ++ low_labels all
    → (g : List (List ℕ)) × (whole ≡ g ++ low_labels (drop 1 all))
first_front [] front whole h e = absurd (omega arith)
first_front (l ∷ all) front whole h e = (front ++ map to_ascii_lowercase l ∷ [], e ∙ sym (append_assoc front (map to_ascii_lowercase l ∷ []) (low_labels all)))

pub zone_more : (labels : List (List ℕ)) (zone rest new : List ℕ) → AreNameOctets zone → ZoneSoFar labels (labels_of zone) rest → length zone < length rest
    → AreNameOctets new → labels_of new ≡ drop 1 (labels_of rest) → ZoneSoFar labels (labels_of zone) new
zone_more labels zone rest new z s h are e =
    let s' = first_front (labels_of rest) s.front (low_labels labels) (omega (arith, h, ap length s.are.same)) s.sound in
    record {
      are = are;
      front = s'.0;
      sound = s'.1 ∙ ap (λ (x : List (List ℕ)). s'.0 ++ low_labels x) (sym e);
      complete = λ f k.
          let g = s.complete f k in
          let b = behind_first (labels_of rest) (labels_of zone) g.0 (omega (arith, h, low_size zone z, low_size rest s.are)) g.1 in
          (b.0, ap (λ (x : List (List ℕ)). low_labels x) e ∙ b.1);
    }

none_before : (g all zone : List (List ℕ)) → length (wire all) ≤ length (wire zone) → all ≡ g ++ zone → all ≡ zone
none_before [] all zone h e = e
none_before (x ∷ g) all zone h e = absurd (omega (arith, h, ap (λ (y : List (List ℕ)). length (wire y)) e, length-append x (wire (g ++ zone)), more g zone))
  where
    more : (g zone : List (List ℕ)) → length (wire zone) ≤ length (wire (g ++ zone))
    more [] zone = omega arith
    more (x ∷ g) zone = omega (arith, more g zone, length-append x (wire (g ++ zone)))

-- what is left is no longer than the zone, and so it is the zone or the name is not in it
pub zone_found : (name : DomainName) (zone rest : List ℕ) (mark test : Bool) → AreNameOctets zone → ZoneSoFar name.labels (labels_of zone) rest
    → length rest ≤ length zone → (IsTrue test ↔ (map to_ascii_lowercase rest ≡ map to_ascii_lowercase zone))
    → IsTrue test ↔ IsInZone name (name_of zone mark)
zone_found name zone rest mark test z s h t =
    let forth : map to_ascii_lowercase rest ≡ map to_ascii_lowercase zone → IsInZone name (name_of zone mark) = λ e.
    let same : low_labels (labels_of rest) ≡ low_labels (labels_of zone) = sym (octets_low rest s.are).labels_are ∙ ap (λ (x : List ℕ). labels_of x) e
    ∙ (octets_low zone z).labels_are in
    record { front = s.front; same = s.sound ∙ ap (λ (x : List (List ℕ)). s.front ++ x) same } in
    let back : IsInZone name (name_of zone mark) → map to_ascii_lowercase rest ≡ map to_ascii_lowercase zone = λ i.
    let g = s.complete i.front i.same in
    let same = none_before g.0 (low_labels (labels_of rest)) (low_labels (labels_of zone)) (omega (arith, h, low_size zone z, low_size rest s.are)) g.1 in
    wire_low rest s.are ∙ ap (λ (x : List (List ℕ)). wire x) same ∙ sym (wire_low zone z) in
    (λ x. forth (t.0 x), λ i. t.1 (back i))
