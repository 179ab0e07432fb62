-- What becomes of a name when the message grows.
use Rattle.std.proofs.Common.{◌≡◌, ℕ, ◌<◌, ◌≤◌, List, ◌∷◌, ◌++◌, length, take, drop, sym, ◌∙◌, ap, subst, append_assoc, arith, length-append}
use Rattle.std.proofs.Common.{length-drop}
use Rattle.std.proofs.lemmas.List.{drop-append-le, take-append-le}
use Rattle.dns_fields.specs.{Labels.wire, Labels.DomainName, Labels.AreLabels, Names.LabelsStand, Names.pointer, Names.IsNameIn}
use Rattle.dns_fields.specs.Names.LabelsStand.{whole, pointed}
use Rattle.dns_fields.proofs.Runs.{AreLabels-append}

-- what stands in a message are labels
pub labels_stand : {w : List ℕ} {p e : ℕ} {labels : List (List ℕ)} → LabelsStand w p labels e → AreLabels labels
labels_stand {w} {p} {e} {labels} (whole b h s ends) = h
labels_stand {w} {p} {e} {labels} (pointed f rest t re b h s lt lp st j ends) = rw j (AreLabels-append f rest h (labels_stand st))

-- a name stands before the message's end
pub stands_before : {w : List ℕ} {p e : ℕ} {labels : List (List ℕ)} → LabelsStand w p labels e → p < length w
stands_before {w} {p} {e} {labels} (whole b h s ends) = omega (arith, length-drop p w, ap length s, length-append (wire labels) (0 ∷ b))
stands_before {w} {p} {e} {labels} (pointed f rest t re b h s lt lp st j ends) =
    omega (arith, length-drop p w, ap length s, length-append (wire f) (pointer t ++ b))

longer : (m more w b : List ℕ) (p : ℕ) → p < length m → drop p m ≡ w ++ b → drop p (m ++ more) ≡ w ++ (b ++ more)
longer m more w b p h e = drop-append-le p m more (omega arith) ∙ ap (λ (x : List ℕ). x ++ more) e ∙ append_assoc w b more

pub stays : {m : List ℕ} {p e : ℕ} {x : List (List ℕ)} (more : List ℕ) → LabelsStand m p x e → LabelsStand (m ++ more) p x e
stays {m} {p} {e} {x} more (whole b h s ends) =
    let before = stands_before (whole b h s ends) in
    whole (b ++ more) h (longer m more (wire x) (0 ∷ b) p before s) ends
stays {m} {p} {e} {x} more (pointed f rest t re b h s lt lp st j ends) =
    let before = stands_before (pointed {message = m} {offset = p} {end = e} {labels = x} f rest t re b h s lt lp st j ends) in
    let same : take p (m ++ more) ≡ take p m = take-append-le p m more (omega arith) in
    pointed f rest t re (b ++ more) h (longer m more (wire f) (pointer t ++ b) p before s) lt lp
    (subst (λ (w : List ℕ). LabelsStand w t rest re) (sym same) st) j ends

pub end_within : {m : List ℕ} {p e : ℕ} {x : List (List ℕ)} → LabelsStand m p x e → (p < e) × (e ≤ length m)
end_within {m} {p} {e} {x} (whole b h s ends) = let n = length-append (wire x) (0 ∷ b) in let d = ap length s in (omega arith, omega (arith, length-drop p m))
end_within {m} {p} {e} {x} (pointed f rest t re b h s lt lp st j ends) = let n = length-append (wire f) (pointer t ++ b) in let d = ap length s in
    (omega arith, omega (arith, length-drop p m))

pub stays_name : (m more : List ℕ) (p : ℕ) (x : DomainName) (e : ℕ) → IsNameIn m p x e → IsNameIn (m ++ more) p x e
stays_name m more p x e h = record { stands = stays more h.stands; fits = h.fits; qualified = h.qualified }
