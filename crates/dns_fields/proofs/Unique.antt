-- From one offset stands at most one name.
use Rattle.std.proofs.Common.{◌≡◌, ℕ, ◌+◌, ◌/◌, ◌%◌, List, ◌∷◌, ◌++◌, length, take, sym, ◌∙◌, ap, subst, arith}
use Rattle.dns_fields.specs.{Labels.wire, Names.LabelsStand, Names.pointer, Names.LabelsStand.whole, Names.LabelsStand.pointed}
use Rattle.dns_fields.proofs.Runs.{IsStop, same_run}

pub pointer_stop : (t : ℕ) → IsStop (192 + t / 256)
pointer_stop t = λ _. omega arith

pub zero_stop : IsStop 0
zero_stop = λ h. absurd (omega arith)

-- what begins with an octet 0 begins with no pointer
pub apart : (t : ℕ) {a b : List ℕ} → 0 ∷ a ≡ (192 + t / 256) ∷ b → ⊥
apart t e = let h : 0 ≡ 192 + t / 256 = cc in omega arith

pub same_target : (t u : ℕ) (a b : List ℕ) → pointer t ++ a ≡ pointer u ++ b → t ≡ u
same_target t u a b e =
    let high : 192 + t / 256 ≡ 192 + u / 256 = cc in
    let low : t % 256 ≡ u % 256 = cc in
    omega arith

pub unique : {m : List ℕ} {p e f : ℕ} {x y : List (List ℕ)} → LabelsStand m p x e → LabelsStand m p y f → (x ≡ y) × (e ≡ f)
unique {m} {p} {e} {f} {x} {y} (whole b hx sx ex) (whole b' hy sy ey) =
    let s = same_run x y b b' 0 0 hx hy zero_stop zero_stop (sym sx ∙ sy) in
    let same : x ≡ y = s.0 in
    let n : length (wire x) ≡ length (wire y) = ap (λ (t : List (List ℕ)). length (wire t)) same in
    (same, omega arith)
unique {m} {p} {e} {f} {x} {y} (whole b hx sx ex) (pointed front rest t re b' hf sy lt lp r jy ey) =
    absurd (apart t (same_run x front b (t % 256 ∷ b') 0 (192 + t / 256) hx hf zero_stop (pointer_stop t) (sym sx ∙ sy)).1)
unique {m} {p} {e} {f} {x} {y} (pointed front rest t re b' hf sy lt lp r jy ey) (whole b hx sx ex) =
    absurd (apart t (same_run y front b (t % 256 ∷ b') 0 (192 + t / 256) hx hf zero_stop (pointer_stop t) (sym sx ∙ sy)).1)
unique {m} {p} {e} {f} {x} {y} (pointed front rest t re b hf sx lt lp r jx ex) (pointed front' rest' t' re' b' hf' sy lt' lp' r' jy ey) =
    let s = same_run front front' (t % 256 ∷ b) (t' % 256 ∷ b') (192 + t / 256) (192 + t' / 256) hf hf' (pointer_stop t) (pointer_stop t') (sym sx ∙ sy) in
    let same : front ≡ front' = s.0 in
    let n : length (wire front) ≡ length (wire front') = ap (λ (t : List (List ℕ)). length (wire t)) same in
    let target : t' ≡ t = same_target t' t b' b (sym s.1) in
    let moved : LabelsStand (take p m) t rest' re' = subst (λ (q : ℕ). LabelsStand (take p m) q rest' re') target r' in
    let u = unique r moved in
    let rests : rest ≡ rest' = u.0 in
    (cc, omega arith)
