-- What an option's octets hold.
use Rattle.std.proofs.Common.{◌≡◌, ℕ, ◌+◌, ◌/◌, ◌<◌, ◌^◌, ⊎_elim, List, [], ◌∷◌, ◌++◌, length, refl, sym, ap, ◌∙◌, arith}
use Rattle.std.specs.Int.{bytes_high_first}
use Rattle.std.proofs.lemmas.List.{length-append, append-nil}
use Rattle.dns_fields.specs.Tlvs.{OptionValue, Subnet, OpaqueOption, option_octets, IsAddress, OptionHeld, OptionFits}
use Rattle.dns_fields.proofs.Tlvs.{parts, number_first}

subnet_same : (f g s t c d : ℕ) (a b u v : List ℕ) → f < 256 ^ 2 → g < 256 ^ 2 → length a ≡ (s + 7) / 8 → length b ≡ (t + 7) / 8
    → (bytes_high_first 2 f ++ (s ∷ c ∷ a)) ++ u ≡ (bytes_high_first 2 g ++ (t ∷ d ∷ b)) ++ v → Subnet f s c a ≡ Subnet g t d b
subnet_same f g s t c d a b u v p q n k e =
    let h = number_first f g (s ∷ c ∷ (a ++ u)) (t ∷ d ∷ (b ++ v)) p q e in
    let source : s ≡ t = let x : s ∷ c ∷ (a ++ u) ≡ t ∷ d ∷ (b ++ v) = h.1 in cc in
    let scope : c ≡ d = let x : s ∷ c ∷ (a ++ u) ≡ t ∷ d ∷ (b ++ v) = h.1 in cc in
    let tails : a ++ u ≡ b ++ v = let x : s ∷ c ∷ (a ++ u) ≡ t ∷ d ∷ (b ++ v) = h.1 in cc in
    let same : length a ≡ length b = n ∙ ap (λ (z : ℕ). (z + 7) / 8) source ∙ sym k in
    let x = parts a u b v same tails in
    let address = x.0 in
    let family = h.0 in
    cc

family_small : (f s : ℕ) (a : List ℕ) → IsAddress f s a → f < 256 ^ 2
family_small f s a i = ⊎_elim (λ h. omega (arith, h.0)) (λ h. omega (arith, h.0)) i.most

pub option_once : (k : ℕ) (d : List ℕ) (v w : OptionValue) → OptionHeld k d v → OptionHeld k d w → v ≡ w
option_once k d (Subnet f s c a) (Subnet g t e b) x y = subnet_same f g s t c e a b x.2 y.2 (family_small f s a x.1) (family_small g t b y.1) x.1.long
    y.1.long (sym x.3 ∙ y.3)
option_once k d (Subnet f s c a) (OpaqueOption o) x y = absurd (y.0 x.0)
option_once k d (OpaqueOption o) (Subnet g t e b) x y = absurd (x.0 y.0)
option_once k d (OpaqueOption o) (OpaqueOption u) x y = ap OpaqueOption (sym x.1 ∙ y.1)

pub option_own : (k : ℕ) (d : List ℕ) (v : OptionValue) → OptionHeld k d v → OptionHeld k (option_octets v) v
option_own k d (Subnet f s c a) x = (x.0, x.1, [], sym (append-nil (option_octets (Subnet f s c a))))
option_own k d (OpaqueOption o) x = (x.0, refl)

pub option_fit : (k : ℕ) (d : List ℕ) (v : OptionValue) → k < 256 ^ 2 → length d < 256 ^ 2 → OptionHeld k d v → OptionFits (k, v)
option_fit k d (Subnet f s c a) p q x = ((p, omega (arith, q, ap length x.3, length-append (option_octets (Subnet f s c a)) x.2)), x.1)
option_fit k d (OpaqueOption o) p q x = ((p, omega (arith, q, ap length x.1)), tt)
