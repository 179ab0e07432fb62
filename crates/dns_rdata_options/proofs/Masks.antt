-- The first bits of octets.
use Rattle.std.proofs.Common.{◌≡◌, ℕ, suc, ◌-◌, ◌*◌, ◌<◌, List, [], ◌∷◌, length, get_or, refl, ◌∙◌, ap, arith}
use Rattle.dns_rdata_options.specs.IpNet.{masked_octet, masked_octets}

pub masked_all : (bits : ℕ) (old new : List ℕ) → length new ≡ length old
    → ((k : ℕ) → k < length old → get_or new k 0 ≡ masked_octet (bits - 8 * k) (get_or old k 0)) → new ≡ masked_octets bits old
masked_all bits [] [] n h = refl
masked_all bits (x ∷ xs) (y ∷ ys) n h =
    let whole : bits - 8 * 0 ≡ bits = omega arith in
    let first : y ≡ masked_octet bits x = h 0 (omega arith) ∙ ap (λ (b : ℕ). masked_octet b x) whole in
    let rest : ys ≡ masked_octets (bits - 8) xs = masked_all (bits - 8) xs ys (omega (arith, n))
    (λ k l. let e : bits - 8 * suc k ≡ bits - 8 - 8 * k = omega arith in h (suc k) (omega (arith, l)) ∙ ap (λ (b : ℕ). masked_octet b (get_or xs k 0)) e) in
    ap (λ (z : ℕ). z ∷ ys) first ∙ ap (λ (l : List ℕ). masked_octet bits x ∷ l) rest
masked_all bits xs ys n h = absurd (omega (arith, n))
