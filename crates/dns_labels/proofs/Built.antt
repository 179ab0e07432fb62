-- Names put together.
use Rattle.std.proofs.Common.{◌≡◌, ℕ, true, ◌+◌, ◌<◌, ◌≤◌, List, [], ◌∷◌, ◌++◌, length, refl, sym, ◌∙◌, ap, append_assoc, arith, length-append}
use Rattle.std.proofs.lemmas.List.{append-nil}
use Rattle.dns_fields.specs.Labels.{IsLabel, AreLabels, IsName, FitsName, wire}
use Rattle.dns_fields.proofs.Runs.{wire-append, AreLabels-append}
use Rattle.dns_labels.specs.Labels.{labels_of, AreNameOctets}
use Rattle.dns_labels.proofs.Octets.{wire_length, second_is, labels_from, are_name_octets}

pub record AreJoined (new : List ℕ) (labels : List (List ℕ)) : Type 0 where
  pub labels_are : labels_of new ≡ labels
  pub octets : AreNameOctets new

joined_wire : {old new : List ℕ} (labels : List (List ℕ)) → AreNameOctets old → AreLabels labels → new ≡ old ++ wire labels → length new ≤ 254
    → AreJoined new (labels_of old ++ labels)
joined_wire {old} {new} labels n are e room =
    let w : new ≡ wire (labels_of old ++ labels) = e ∙ ap (λ (x : List ℕ). x ++ wire labels) n.same ∙ sym (wire-append (labels_of old) labels) in
    record {
      labels_are = labels_from new (labels_of old ++ labels) w;
      octets = are_name_octets new (labels_of old ++ labels) (AreLabels-append (labels_of old) labels n.are are) (omega (arith, room, ap length w)) w;
    }

-- a label stands behind the others
pub label_joined : {old begun new : List ℕ} (label : List ℕ) → AreNameOctets old → 1 ≤ length label → length label ≤ 63 → length old + length label < 254
    → begun ≡ old ++ length label ∷ [] → new ≡ begun ++ label → AreJoined new (labels_of old ++ label ∷ [])
label_joined {old} {begun} label n some most room b e = joined_wire (label ∷ []) n ((some, most), tt)
    (e ∙ ap (λ (x : List ℕ). x ++ label) b ∙ append_assoc old (length label ∷ []) label ∙ ap (λ (x : List ℕ). old ++ length label ∷ x) (sym (append-nil label)))
    (omega (arith, ap length e, length-append begun label, ap length b, length-append old (length label ∷ [])))

pub octets_joined : {old new other : List ℕ} → AreNameOctets old → AreNameOctets other → length old + length other ≤ 254 → new ≡ old ++ other
    → AreJoined new (labels_of old ++ labels_of other)
octets_joined {old} {other} n k room e = joined_wire (labels_of other) n k.are (e ∙ ap (λ (x : List ℕ). old ++ x) k.same)
    (omega (arith, room, ap length e, length-append old other))

joined_length : {old : List ℕ} (labels : List (List ℕ)) → AreNameOctets old → FitsName (labels_of old ++ labels) → length old + length (wire labels) ≤ 254
joined_length {old} labels n fits = omega (arith, fits, wire_length (labels_of old) labels refl, ap length n.same)

-- a name with the label has room for it
pub label_fits : {old : List ℕ} (label : List ℕ) → AreNameOctets old → IsName (record { labels = labels_of old ++ label ∷ []; fully_qualified = true })
    → IsLabel label × (length old + length label < 254)
label_fits {old} label n is =
    (second_is (labels_of old) label [] is.labels, omega (arith, joined_length (label ∷ []) n is.fits, length-append label []))

pub octets_fit : {old other : List ℕ} → AreNameOctets old → AreNameOctets other
    → IsName (record { labels = labels_of old ++ labels_of other; fully_qualified = true }) → length old + length other ≤ 254
octets_fit {other} n k is = omega (arith, joined_length (labels_of other) n is.fits, ap length k.same)
