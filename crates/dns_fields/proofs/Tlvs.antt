-- Tlvs are of one list of numbers and octets, and what they hold is one list of values.
use Rattle.std.proofs.Common.{◌≡◌, ℕ, ◌+◌, ◌<◌, ◌≤◌, ◌^◌, ⊎_elim, List, [], ◌∷◌, ◌++◌, length, take, drop, map, refl, sym, ap, ◌∙◌, arith, subst}
use Rattle.std.proofs.Common.{append_assoc}
use Rattle.std.specs.{List.flat_map, List.AllByRecursion, Int.bytes_high_first}
use Rattle.std.proofs.lemmas.List.{length-append, take_at, drop_at}
use Rattle.dns_fields.specs.Tlvs.{Numbered, tlv, tlvs, IsTlv, AreTlvs, AllHeld, as_tlv, HoldThemselves, IsTruncated}
use Rattle.dns_fields.proofs.Numbers.{length-bytes, same_number}

-- parts of equal length of one list
pub parts : (a x b y : List ℕ) → length a ≡ length b → a ++ x ≡ b ++ y → (a ≡ b) × (x ≡ y)
parts a x b y n e = (
  sym (take_at a x (length a) refl) ∙ ap (take (length a)) e ∙ take_at b y (length a) (sym n),
  sym (drop_at a x (length a) refl) ∙ ap (drop (length a)) e
      ∙ drop_at b y (length a) (sym n),
)

-- lists are told by their items' octets, where each item has some and they tell it, whatever is behind
pub joined_same : {X : Type 0} (f : X → List ℕ) (P : X → Type 0) → ((x : X) → P x → 1 ≤ length (f x))
    → ((x y : X) (r s : List ℕ) → P x → P y → f x ++ r ≡ f y ++ s → (x ≡ y) × (r ≡ s)) → (xs ys : List X) → AllByRecursion P xs → AllByRecursion P ys
    → flat_map f xs ≡ flat_map f ys → xs ≡ ys
joined_same f P some first [] [] p q e = refl
joined_same f P some first [] (y ∷ ys) p q e = absurd (omega (arith, some y q.0, ap length e, length-append (f y) (flat_map f ys)))
joined_same f P some first (x ∷ xs) [] p q e = absurd (omega (arith, some x p.0, ap length e, length-append (f x) (flat_map f xs)))
joined_same f P some first (x ∷ xs) (y ∷ ys) p q e =
    let h = first x y (flat_map f xs) (flat_map f ys) p.0 q.0 e in
    let rest = joined_same f P some first xs ys p.1 q.1 h.1 in
    let head = h.0 in
    cc

-- two octets of a number before anything else
pub number_first : (a b : ℕ) (x y : List ℕ) → a < 256 ^ 2 → b < 256 ^ 2 → bytes_high_first 2 a ++ x ≡ bytes_high_first 2 b ++ y → (a ≡ b) × (x ≡ y)
number_first a b x y p q e =
    let h = parts (bytes_high_first 2 a) x (bytes_high_first 2 b) y (length-bytes 2 a ∙ sym (length-bytes 2 b)) e in
    (same_number 2 a b p q h.0, h.1)

-- code, length and the octets that follow, however long
pub heads_same : (c d l k : ℕ) (x y : List ℕ) → c < 256 ^ 2 → d < 256 ^ 2 → l < 256 ^ 2 → k < 256 ^ 2
    → bytes_high_first 2 c ++ (bytes_high_first 2 l ++ x) ≡ bytes_high_first 2 d ++ (bytes_high_first 2 k ++ y) → (c ≡ d) × (l ≡ k) × (x ≡ y)
heads_same c d l k x y p q r s e =
    let h = number_first c d (bytes_high_first 2 l ++ x) (bytes_high_first 2 k ++ y) p q e in
    let g = number_first l k x y r s h.1 in
    (h.0, g.0, g.1)

pub tlv_before : (x : Numbered (List ℕ)) (r : List ℕ) → tlv x ++ r ≡ bytes_high_first 2 x.0 ++ (bytes_high_first 2 (length x.1) ++ (x.1 ++ r))
tlv_before x r = append_assoc (bytes_high_first 2 x.0) (bytes_high_first 2 (length x.1) ++ x.1) r
    ∙ ap (λ (l : List ℕ). bytes_high_first 2 x.0 ++ l) (append_assoc (bytes_high_first 2 (length x.1)) x.1 r)

pub first_tlv : (x y : Numbered (List ℕ)) (r s : List ℕ) → IsTlv x → IsTlv y → tlv x ++ r ≡ tlv y ++ s → (x ≡ y) × (r ≡ s)
first_tlv x y r s f g e =
    let h = heads_same x.0 y.0 (length x.1) (length y.1) (x.1 ++ r) (y.1 ++ s) f.0 g.0 f.1 g.1 (sym (tlv_before x r) ∙ e ∙ tlv_before y s) in
    let t = parts x.1 r y.1 s h.1 h.2 in
    (ap (λ (n : ℕ). (n, x.1)) h.0 ∙ ap (λ (o : List ℕ). (y.0, o)) t.0, t.1)

pub length-tlv : (x : Numbered (List ℕ)) → length (tlv x) ≡ 4 + length x.1
length-tlv x = omega (
  arith,
  length-append (bytes_high_first 2 x.0) (bytes_high_first 2 (length x.1) ++ x.1),
  length-append
      (bytes_high_first 2 (length x.1)) x.1,
  length-bytes 2 x.0,
  length-bytes 2 (length x.1),
)

pub no_tlv : (x : Numbered (List ℕ)) (r : List ℕ) → [] ≡ tlv x ++ r → ⊥
no_tlv x r e = let n : 0 ≡ length (tlv x ++ r) = ap length e in omega (arith, n, length-append (tlv x) r, length-tlv x)

pub tlvs_same : (xs ys : List (Numbered (List ℕ))) → AreTlvs xs → AreTlvs ys → tlvs xs ≡ tlvs ys → xs ≡ ys
tlvs_same = joined_same tlv IsTlv (λ x f. omega (arith, length-tlv x)) first_tlv

truncated_some : (n : ℕ) → IsTruncated n [] → ⊥
truncated_some n c = ⊎_elim
    (λ (e : [] ≡ bytes_high_first 2 c.0). let k : 0 ≡ length (bytes_high_first 2 c.0) = ap length e in omega (arith, k, length-bytes 2 c.0))
    (λ h. let k : 0 ≡ length (bytes_high_first 2 c.0 ++ (bytes_high_first 2 h.0 ++ h.1)) = ap length h.5 in
    omega (arith, k, length-append (bytes_high_first 2 c.0) (bytes_high_first 2 h.0 ++ h.1), length-bytes 2 c.0))
    c.2

-- a tlv does not begin where a truncated option begins
pub truncated_tlv : (n : ℕ) (x : Numbered (List ℕ)) (r : List ℕ) → IsTlv x → IsTruncated n (tlv x ++ r) → ⊥
truncated_tlv n x r f c = ⊎_elim
    (λ (e : tlv x ++ r ≡ bytes_high_first 2 c.0). let k : length (tlv x ++ r) ≡ length (bytes_high_first 2 c.0) = ap length e in
    omega (arith, k, length-append (tlv x) r, length-tlv x, length-bytes 2 c.0))
    (λ h.
    let t = heads_same x.0 c.0 (length x.1) h.0 (x.1 ++ r) h.1 f.0 c.1 f.1 h.2 (sym (tlv_before x r) ∙ h.5) in
    let k : length (x.1 ++ r) ≡ length h.1 = ap length t.2 in
    omega (arith, k, t.1, h.4, length-append x.1 r))
    c.2

-- whole tlvs are not tlvs and a truncated option
pub complete_or_truncated : (n : ℕ) (xs ys : List (Numbered (List ℕ))) (s : List ℕ) → AreTlvs xs → AreTlvs ys → IsTruncated n s → tlvs xs ≡ tlvs ys ++ s → ⊥
complete_or_truncated n [] [] s f g c e = truncated_some n (subst (IsTruncated n) (sym e) c)
complete_or_truncated n [] (y ∷ ys) s f g c e = no_tlv y (tlvs ys ++ s) (e ∙ append_assoc (tlv y) (tlvs ys) s)
complete_or_truncated n (x ∷ xs) [] s f g c e = truncated_tlv n x (tlvs xs) f.0 (subst (IsTruncated n) (sym e) c)
complete_or_truncated n (x ∷ xs) (y ∷ ys) s f g c e =
    let h = first_tlv x y (tlvs xs) (tlvs ys ++ s) f.0 g.0 (e ∙ append_assoc (tlv y) (tlvs ys) s) in
    complete_or_truncated n xs ys s f.1 g.1 c h.1

-- ---- values in tlvs, of any kind that has three facts: octets hold one value, its own octets hold it too, and they
-- are no more
module _ {V : Type 0} (Held : ℕ → List ℕ → V → Type 0) (octets : V → List ℕ) where
  pub held_same : ((k : ℕ) (d : List ℕ) (v w : V) → Held k d v → Held k d w → v ≡ w) → (xs : List (Numbered (List ℕ))) (a b : List (Numbered V))
      → AllHeld Held xs a → AllHeld Held xs b → a ≡ b
  held_same one [] [] [] f g = refl
  held_same one [] (a ∷ as') b f g = absurd f
  held_same one [] [] (b ∷ bs) f g = absurd g
  held_same one (x ∷ xs) [] b f g = absurd f
  held_same one (x ∷ xs) (a ∷ as') [] f g = absurd g
  held_same one (x ∷ xs) (a ∷ as') (b ∷ bs) f g =
      let keys : a.0 ≡ b.0 = sym f.0 ∙ g.0 in
      let values : a.1 ≡ b.1 = one b.0 x.1 a.1 b.1 (subst (λ (k : ℕ). Held k x.1 a.1) keys f.1) g.1 in
      let first : a ≡ b = ap (λ (k : ℕ). (k, a.1)) keys ∙ ap (λ (v : V). (b.0, v)) values in
      ap (λ (c : Numbered V). c ∷ as') first ∙ ap (λ (cs : List (Numbered V)). b ∷ cs) (held_same one xs as' bs f.2 g.2)

  -- what is asked of each value follows from its tlv
  pub held_fit : (Fit : Numbered V → Type 0) → ((k : ℕ) (d : List ℕ) (v : V) → k < 256 ^ 2 → length d < 256 ^ 2 → Held k d v → Fit (k, v))
      → (xs : List (Numbered (List ℕ))) (a : List (Numbered V)) → AreTlvs xs → AllHeld Held xs a → AllByRecursion Fit a
  held_fit Fit fit [] [] p f = tt
  held_fit Fit fit [] (a ∷ as') p f = absurd f
  held_fit Fit fit (x ∷ xs) [] p f = absurd f
  held_fit Fit fit (x ∷ xs) (a ∷ as') p f = (fit a.0 x.1 a.1 (subst (λ (k : ℕ). k < 256 ^ 2) f.0 p.0.0) p.0.1 f.1, held_fit Fit fit xs as' p.1 f.2)

  -- lawful values are held by their own octets
  pub lawful_held : (a : List (Numbered V)) → HoldThemselves Held octets a → AllHeld Held (map (as_tlv octets) a) a
  lawful_held [] f = tt
  lawful_held (a ∷ as') f = (refl, f.0, lawful_held as' f.1)

  pub fit_tlvs : (Fit : Numbered V → Type 0) → ((x : Numbered V) → Fit x → IsTlv (as_tlv octets x)) → (a : List (Numbered V)) → AllByRecursion Fit a
      → AreTlvs (map (as_tlv octets) a)
  fit_tlvs Fit is [] f = tt
  fit_tlvs Fit is (a ∷ as') f = (is a f.0, fit_tlvs Fit is as' f.1)
