-- A name that was found in a message, and its octets.
use Rattle.std.proofs.Common.{ℕ, Bool, true, List, length, refl, sym, ap, subst, arith}
use Rattle.dns_fields.specs.{Labels.IsName, Names.LabelsStand, Names.IsNameIn}
use Rattle.dns_fields.proofs.Stays.{labels_stand}
use Rattle.dns_labels.specs.{Labels.AreNameOctets, Labels.name_of, Reading.IsNameAt}
use Rattle.dns_labels.proofs.Octets.{labels_from, are_name_octets}

pub octets_found : {m : List ℕ} {p : ℕ} {octets : List ℕ} {e : ℕ} → IsNameAt m p octets e → AreNameOctets octets
octets_found {m} {p} {octets} {e} n = are_name_octets octets n.labels (labels_stand n.stands) n.fits n.same

pub name_found : {m : List ℕ} {p : ℕ} {octets : List ℕ} {e : ℕ} → IsNameAt m p octets e → IsNameIn m p (name_of octets true) e
name_found {m} {p} {octets} {e} n =
    let l = labels_from octets n.labels n.same in
    record { stands = subst (λ (x : List (List ℕ)). LabelsStand m p x e) (sym l) n.stands; fits = rw l n.fits; qualified = refl }

-- octets that are labels of a name are a name
pub name_is_of : (octets : List ℕ) (mark : Bool) → AreNameOctets octets → IsName (name_of octets mark)
name_is_of octets mark n = record { labels = n.are; fits = omega (arith, ap length n.same, n.room) }
