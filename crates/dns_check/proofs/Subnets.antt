-- The client subnet that begins octets, and why none does.
use Rattle.std.proofs.lemmas.List.{length-append, length-take-le, length-drop, take-append-drop}
use Rattle.std.proofs.{Common.refl, Common.sym, Common.ap, Common.◌∙◌, Common.arith, Common.subst, Common.append_assoc}
use Rattle.std.proofs.lemmas.Nat.{be_bytes_2}
use Rattle.std.proofs.Common.{◌≡◌, ◌≢◌, ◌⊎◌, inl, inr, ℕ, zero, suc, ◌-◌, ◌<◌, ◌≤◌, ◌^◌, List, [], ◌∷◌, ◌++◌, length, take, drop, get_or}
use Rattle.std.specs.{Int.w16, Int.from_be_bytes, Int.bytes_high_first}
use Rattle.dns_types.specs.declared.error.DecodeError.{DecodeError}
use Rattle.dns_fields.specs.Tlvs.{OptionValue, Subnet, OpaqueOption, option_octets, IsAddress, OptionHeld}
use Rattle.dns_fields.proofs.{Numbers.length-bytes, Tlvs.number_first}
use Rattle.dns_check.specs.Options.{HasOption, NoOption, IsFamily, prefix_octets, family_octets, SubnetHead}
use Rattle.dns_check.specs.Options.{IsSubnetError}

-- octets as numbers of eight bits, as code knows them
abbrev pub Eights : List ℕ → Type 0
Eights s = (i : ℕ) → get_or s i 0 < 256

pair_small : (p q : ℕ) → p < 256 → q < 256 → Eights (p ∷ q ∷ [])
pair_small p q a b zero = a
pair_small p q a b (suc zero) = b
pair_small p q a b (suc (suc i)) = omega arith

-- the family, and what follows
pub family_first : (s : List ℕ) (f : ℕ) → f ≡ from_be_bytes w16 (get_or s 0 0 ∷ get_or s 1 0 ∷ []) → 2 ≤ length s → Eights s
    → s ≡ bytes_high_first 2 f ++ drop 2 s
family_first (p ∷ q ∷ s) f e n b = ap (λ (o : List ℕ). o ++ s) (sym (be_bytes_2 (p ∷ q ∷ []) f refl (pair_small p q (b 0) (b 1)) e))
family_first s f e n b = absurd (omega arith)

heads : (s : List ℕ) → 4 ≤ length s → drop 2 s ≡ get_or s 2 0 ∷ get_or s 3 0 ∷ drop 4 s
heads (p ∷ q ∷ r ∷ t ∷ s) n = refl
heads s n = absurd (omega arith)

pub head_first : (s : List ℕ) (f : ℕ) → f ≡ from_be_bytes w16 (get_or s 0 0 ∷ get_or s 1 0 ∷ []) → 4 ≤ length s → Eights s → IsFamily f
    → SubnetHead s f (get_or s 2 0) (get_or s 3 0) (drop 4 s)
head_first s f e n b known = record { octets = family_first s f e (omega arith) b ∙ ap (λ (o : List ℕ). bytes_high_first 2 f ++ o) (heads s n); known = known }

pub is_address : (f source : ℕ) (s : List ℕ) → IsFamily f → length s ≡ prefix_octets source → length s ≤ family_octets f → IsAddress f source s
is_address f source s (inl e) long le = record { long = long; most = inl (e, omega (arith, rw e at le)) }
is_address f source s (inr e) long le = record { long = long; most = inr (e, omega (arith, rw e at le)) }

-- the octets begin with a subnet
pub subnet_held : (s : List ℕ) (f : ℕ) → 4 ≤ length s → Eights s → f ≡ from_be_bytes w16 (get_or s 0 0 ∷ get_or s 1 0 ∷ [])
    → IsFamily f → prefix_octets (get_or s 2 0) ≤ family_octets f → prefix_octets (get_or s 2 0) ≤ length s - 4 → HasOption 8 s
subnet_held s f n b e known most enough =
    let source = get_or s 2 0 in
    let scope = get_or s 3 0 in
    let k = prefix_octets source in
    let a = take k (drop 4 s) in
    let long : length a ≡ k = length-take-le k (drop 4 s) (omega (arith, length-drop 4 s)) in
    let address = is_address f source a known long (omega (arith, long, most)) in
    let octets : s ≡ option_octets (Subnet f source scope a) ++ drop k (drop 4 s) =
    (head_first s f e n b known).octets ∙ ap (λ (o : List ℕ). bytes_high_first 2 f ++ (source ∷ scope ∷ o)) (sym (take-append-drop k (drop 4 s)))
    ∙ sym (append_assoc (bytes_high_first 2 f) (source ∷ scope ∷ a) (drop k (drop 4 s))) in
    record { value = Subnet f source scope a; held = (refl, address, drop k (drop 4 s), octets) }

-- any other option holds its octets
pub plain_held : (code : ℕ) (s : List ℕ) → code ≢ 8 → HasOption code s
plain_held code s h = record { value = OpaqueOption s; held = (h, refl) }

pub subnet_at : (code : ℕ) (s : List ℕ) → code ≡ 8 → HasOption 8 s → HasOption code s
subnet_at code s e h = subst (λ (n : ℕ). HasOption n s) (sym e) h

-- ---- where there is none

known_address : (f source : ℕ) (a : List ℕ) → IsAddress f source a → IsFamily f × (length a ≤ family_octets f) × (f < 256 ^ 2)
known_address f source a h = most h.most where
  most : ((f ≡ 1) × (length a ≤ 4)) ⊎ ((f ≡ 2) × (length a ≤ 16)) → IsFamily f × (length a ≤ family_octets f) × (f < 256 ^ 2)
  most (inl e) = (inl e.0, rw e.0 e.1, omega (arith, e.0))
  most (inr e) = (inr e.0, rw e.0 e.1, omega (arith, e.0))

family_small : (f : ℕ) → IsFamily f → f < 256 ^ 2
family_small f (inl e) = omega (arith, e)
family_small f (inr e) = omega (arith, e)

no_subnet : (s : List ℕ) (e : DecodeError) → IsSubnetError s e → (f source scope : ℕ) (a surplus : List ℕ) → IsAddress f source a
    → s ≡ bytes_high_first 2 f ++ (source ∷ scope ∷ (a ++ surplus)) → ⊥
no_subnet s e (inl h) f source scope a surplus address is =
    omega (arith, h.short, ap length is, length-append (bytes_high_first 2 f) (source ∷ scope ∷ (a ++ surplus)), length-bytes 2 f)
no_subnet s e (inr (inl h)) f source scope a surplus address is =
    let k = known_address f source a address in
    let same = number_first h.family f h.rest (source ∷ scope ∷ (a ++ surplus)) h.small k.2 (sym h.octets ∙ is) in
    h.unknown (subst IsFamily (sym same.0) k.0)
no_subnet s e (inr (inr (inl h))) f source scope a surplus address is =
    let k = known_address f source a address in
    let same = number_first h.family f h.rest (source ∷ scope ∷ (a ++ surplus)) (family_small h.family h.known) k.2 (sym h.octets ∙ is) in
    omega (arith, h.short, ap length same.1)
no_subnet s e (inr (inr (inr (inl h)))) f source scope a surplus address is =
    let k = known_address f source a address in
    let same = number_first h.family f (h.source ∷ h.scope ∷ h.rest) (source ∷ scope ∷ (a ++ surplus)) (family_small h.family h.head.known) k.2
    (sym h.head.octets ∙ is) in
    let prefix : h.source ≡ source = ap (λ (l : List ℕ). get_or l 0 0) same.1 in
    omega (arith, h.long, address.long, ap prefix_octets prefix, k.1, ap family_octets same.0)
no_subnet s e (inr (inr (inr (inr h)))) f source scope a surplus address is =
    let k = known_address f source a address in
    let same = number_first h.family f (h.source ∷ h.scope ∷ h.rest) (source ∷ scope ∷ (a ++ surplus)) (family_small h.family h.head.known) k.2
    (sym h.head.octets ∙ is) in
    let prefix : h.source ≡ source = ap (λ (l : List ℕ). get_or l 0 0) same.1 in
    omega (arith, h.short, address.long, ap prefix_octets prefix, ap length same.1, length-append a surplus)

pub subnet_none : (s : List ℕ) (e : DecodeError) → IsSubnetError s e → NoOption 8 s
subnet_none s e h = record { none = of }
  where
    of : (v : OptionValue) → OptionHeld 8 s v → ⊥
    of (Subnet f source scope a) o = no_subnet s e h f source scope a o.2 o.1 (o.3 ∙ append_assoc (bytes_high_first 2 f) (source ∷ scope ∷ a) o.2)
    of (OpaqueOption t) o = o.0 refl
