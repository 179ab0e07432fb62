-- Canonical octets of what stands in octets are octets.
use Rattle.std.proofs.Common.{◌≡◌, ℕ, zero, suc, ◌+◌, ◌*◌, ◌/◌, ◌%◌, ◌<◌, ◌^◌, ◌⊎◌, inl, inr, List, [], ◌∷◌, ◌++◌, length, take, drop, get_or, map, refl, sym}
use Rattle.std.proofs.Common.{arith, subst}
use Rattle.std.specs.{List.flat_map, List.AllByRecursion, List.range_with_len, Int.byte_at, Int.bytes_high_first, Char.to_ascii_lowercase}
use Rattle.std.proofs.{lemmas.List.take_at, lemmas.List.drop_at, lemmas.Bool.Decides.nat_tests}
use Rattle.std.proofs.lemmas.List.Elements.{All-nil, All-cons, All-head, All-tail, All-same, All-append, All-take, All-drop, All-map, All-weaker, All-from_get_or}
use Rattle.dns_fields.specs.{Octets.AreOctets, Octets.At, Labels.AreLabels, Labels.wire, Labels.lowered, Names.LabelsStand, Names.pointer}
use Rattle.dns_fields.specs.{Names.LabelsStand.whole, Names.LabelsStand.pointed, Sorting.sorted, Laws.OctetsLaw}
use Rattle.dns_fields.specs.Tlvs.{Numbered, tlv, tlvs, AllHeld, as_tlv, OptionValue, Subnet, OpaqueOption, option_octets, OptionHeld}
use Rattle.dns_fields.specs.Tlvs.{ParameterValue, Alpn, Port, parameter_octets, IsBody}
use Rattle.dns_fields.specs.Tlvs.{ParameterHeld}
use Rattle.dns_fields.specs.Bitmaps.{Block, block, IsBlock, mark, keep, trimmed, types_octet, window, minimal}
use Rattle.dns_fields.specs.Fields.{Value, Field, field_octets, canonical}
use Rattle.dns_fields.specs.declared.Kind.{Kind, TheVariants.Number, TheVariants.Name, TheVariants.Rest, TheVariants.Options, TheVariants.Parameters}
use Rattle.dns_fields.specs.declared.Kind.{TheVariants.Bitmap}
use Rattle.dns_fields.specs.Fields.{option_tlvs, parameter_tlvs, CompleteOptions, TruncatedOptions}
use Rattle.dns_fields.proofs.{Stays.labels_stand, Sorted.octets_cmp, Sorted.sorted_all, Bitmaps.mark_small, Bitmaps.minimal_fit, Bitmaps.minimal_all, Bitmaps.packed_less}

abbrev IsOctet : ℕ → Type 0
IsOctet octet = octet < 256

-- ---- parts of octets are octets

pub AreOctets-nil : AreOctets []
AreOctets-nil = All-nil IsOctet

pub AreOctets-cons : (x : ℕ) (xs : List ℕ) → x < 256 → AreOctets xs → AreOctets (x ∷ xs)
AreOctets-cons x xs h a = All-cons IsOctet x xs h a

pub AreOctets-head : (x : ℕ) (xs : List ℕ) → AreOctets (x ∷ xs) → x < 256
AreOctets-head x xs a = All-head IsOctet x xs a

pub AreOctets-tail : (x : ℕ) (xs : List ℕ) → AreOctets (x ∷ xs) → AreOctets xs
AreOctets-tail x xs a = All-tail IsOctet x xs a

pub AreOctets-same : (xs ys : List ℕ) → xs ≡ ys → AreOctets xs → AreOctets ys
AreOctets-same xs ys e a = All-same IsOctet ys xs (sym e) a

pub AreOctets-append : (xs ys : List ℕ) → AreOctets xs → AreOctets ys → AreOctets (xs ++ ys)
AreOctets-append xs ys a b = All-append IsOctet xs ys a b

pub AreOctets-take : (n : ℕ) (xs : List ℕ) → AreOctets xs → AreOctets (take n xs)
AreOctets-take n xs a = All-take IsOctet n xs a

pub AreOctets-drop : (n : ℕ) (xs : List ℕ) → AreOctets xs → AreOctets (drop n xs)
AreOctets-drop n xs a = All-drop IsOctet n xs a

pub AreOctets-front : (xs ys : List ℕ) → AreOctets (xs ++ ys) → AreOctets xs
AreOctets-front xs ys a = AreOctets-same (take (length xs) (xs ++ ys)) xs (take_at xs ys (length xs) refl) (AreOctets-take (length xs) (xs ++ ys) a)

pub AreOctets-back : (xs ys : List ℕ) → AreOctets (xs ++ ys) → AreOctets ys
AreOctets-back xs ys a = AreOctets-same (drop (length xs) (xs ++ ys)) ys (drop_at xs ys (length xs) refl) (AreOctets-drop (length xs) (xs ++ ys) a)

-- what stands in octets
pub AreOctets-at : (m : List ℕ) (p : ℕ) (x : List ℕ) (q : ℕ) → AreOctets m → At m p x q → AreOctets x
AreOctets-at m p x q a h = AreOctets-same (take (length x) (drop p m)) x h.same (AreOctets-take (length x) (drop p m) (AreOctets-drop p m a))

pub AreOctets-number : (w n : ℕ) → AreOctets (bytes_high_first w n)
AreOctets-number zero n = AreOctets-nil
AreOctets-number (suc w) n = AreOctets-cons (byte_at w n) (bytes_high_first w n) (small w n) (AreOctets-number w n)
  where
    small : (k n : ℕ) → byte_at k n < 256
    small zero n = omega arith
    small (suc k) n = let high : ℕ = n / 256 ^ suc k in let h : high % 256 < 256 = omega arith in h

pub AreOctets-flat_map : {X : Type 0} (f : X → List ℕ) (xs : List X) → AllByRecursion (λ x. AreOctets (f x)) xs → AreOctets (flat_map f xs)
AreOctets-flat_map f [] a = AreOctets-nil
AreOctets-flat_map f (x ∷ xs) a = AreOctets-append (f x) (flat_map f xs) a.0 (AreOctets-flat_map f xs a.1)

-- ---- names

pub wire_octets : (labels : List (List ℕ)) → AreOctets (wire labels) → AllByRecursion AreOctets labels
wire_octets [] a = tt
wire_octets (label ∷ labels) a =
    let t = AreOctets-tail (length label) (label ++ wire labels) a in
    (AreOctets-front label (wire labels) t, wire_octets labels (AreOctets-back label (wire labels) t))

both : (a b : List (List ℕ)) → AllByRecursion AreOctets a → AllByRecursion AreOctets b → AllByRecursion AreOctets (a ++ b)
both [] b f g = g
both (x ∷ a) b f g = (f.0, both a b f.1 g)

pub labels_octets : {m : List ℕ} {p e : ℕ} {labels : List (List ℕ)} → AreOctets m → LabelsStand m p labels e → AllByRecursion AreOctets labels
labels_octets {m} {p} {e} {labels} a (whole b h s ends) =
    wire_octets labels (AreOctets-front (wire labels) (0 ∷ b) (AreOctets-same (drop p m) (wire labels ++ 0 ∷ b) s (AreOctets-drop p m a)))
labels_octets {m} {p} {e} {labels} a (pointed f rest t re b h s lt lp st j ends) =
    let front = wire_octets f (AreOctets-front (wire f) (pointer t ++ b) (AreOctets-same (drop p m) (wire f ++ (pointer t ++ b)) s (AreOctets-drop p m a))) in
    subst (AllByRecursion AreOctets) (sym j) (both f rest front (labels_octets (AreOctets-take p m a) st))

lower_octet : (c : ℕ) → c < 256 → to_ascii_lowercase c < 256
lower_octet c h = grind (arith, nat_tests)

pub lower_octets : (s : List ℕ) → AreOctets s → AreOctets (map to_ascii_lowercase s)
lower_octets s a = All-map IsOctet to_ascii_lowercase s (All-weaker IsOctet (λ c. to_ascii_lowercase c < 256) lower_octet s a)

pub lowered_octets : (labels : List (List ℕ)) → AreLabels labels → AllByRecursion AreOctets labels → AreOctets (lowered labels)
lowered_octets [] h a = AreOctets-cons 0 [] (omega arith) AreOctets-nil
lowered_octets (label ∷ labels) h a =
    AreOctets-cons (length label) (map to_ascii_lowercase label ++ lowered labels) (omega (arith, h.0.1))
    (AreOctets-append (map to_ascii_lowercase label) (lowered labels) (lower_octets label a.0) (lowered_octets labels h.1 a.1))

-- ---- tlvs, options and parameters

pub tlv_octets : (x : Numbered (List ℕ)) → AreOctets x.1 → AreOctets (tlv x)
tlv_octets x a =
    AreOctets-append (bytes_high_first 2 x.0) (bytes_high_first 2 (length x.1) ++ x.1) (AreOctets-number 2 x.0)
    (AreOctets-append (bytes_high_first 2 (length x.1)) x.1 (AreOctets-number 2 (length x.1)) a)

pub tlv_body : (x : Numbered (List ℕ)) → AreOctets (tlv x) → AreOctets x.1
tlv_body x a = AreOctets-back (bytes_high_first 2 (length x.1)) x.1 (AreOctets-back (bytes_high_first 2 x.0) (bytes_high_first 2 (length x.1) ++ x.1) a)

-- each value that tlvs hold has octets, and so has its tlv
held_octets : {V : Type 0} (Held : ℕ → List ℕ → V → Type 0) (octets : V → List ℕ)
    → ((k : ℕ) (d : List ℕ) (v : V) → Held k d v → AreOctets d → AreOctets (octets v))
    → (xs : List (Numbered (List ℕ))) (a : List (Numbered V)) → AllHeld Held xs a → AreOctets (tlvs xs)
    → AllByRecursion AreOctets (map tlv (map (as_tlv octets) a))
held_octets Held octets own [] [] f h = tt
held_octets Held octets own [] (a ∷ as') f h = absurd f
held_octets Held octets own (x ∷ xs) [] f h = absurd f
held_octets Held octets own (x ∷ xs) (a ∷ as') f h =
    let body = tlv_body x (AreOctets-front (tlv x) (tlvs xs) h) in
    (tlv_octets (as_tlv octets a) (own a.0 x.1 a.1 f.1 body), held_octets Held octets own xs as' f.2 (AreOctets-back (tlv x) (tlvs xs) h))

option_own_octets : (k : ℕ) (d : List ℕ) (v : OptionValue) → OptionHeld k d v → AreOctets d → AreOctets (option_octets v)
option_own_octets k d (Subnet f s c a) h o =
    AreOctets-front (option_octets (Subnet f s c a)) h.2 (AreOctets-same d (option_octets (Subnet f s c a) ++ h.2) h.3 o)
option_own_octets k d (OpaqueOption s) h o = AreOctets-same d s h.1 o

body_octets : (d : List ℕ) (v : ParameterValue) → IsBody d v → AreOctets d → AreOctets (parameter_octets v)
body_octets d (Alpn names) h o = AreOctets-same d (parameter_octets (Alpn names)) h.1 o
body_octets d (Port n) h o = AreOctets-number 2 n
body_octets d v h o = AreOctets-same d (parameter_octets v) h o

pub tlvs_octets : (xs : List (Numbered (List ℕ))) → AllByRecursion AreOctets (map tlv xs) → AreOctets (tlvs xs)
tlvs_octets [] a = AreOctets-nil
tlvs_octets (x ∷ xs) a = AreOctets-append (tlv x) (tlvs xs) a.0 (tlvs_octets xs a.1)

options_octets : (m : List ℕ) (p : ℕ) (v : List (Numbered OptionValue)) (q n : ℕ) → AreOctets m
    → CompleteOptions m p v q ⊎ ((v ≡ []) × TruncatedOptions m n p q)
    → AllByRecursion AreOctets (map tlv (option_tlvs v))
options_octets m p v q n a (inl w) = held_octets OptionHeld option_octets option_own_octets w.read v w.held (AreOctets-at m p (tlvs w.read) q a w.at)
options_octets m p v q n a (inr c) = subst (λ (l : List (Numbered OptionValue)). AllByRecursion AreOctets (map tlv (option_tlvs l))) (sym c.0) tt

-- ---- the minimal bitmap

window_octets : (v : List ℕ) (k : ℕ) → AreOctets (window v k)
unfolding window types_octet
window_octets v k = trimmed_octets (map (types_octet v k) (range_with_len 0 32)) (All-map IsOctet (types_octet v k) (range_with_len 0 32)
    (All-from_get_or (λ j. types_octet v k j < 256) (range_with_len 0 32) 0 (λ i l. octet (get_or (range_with_len 0 32) i 0))))
  where
    octet : (j : ℕ) → types_octet v k j < 256
    octet j = packed_less (λ b. mark v (256 * k + (8 * j + b))) (λ b. mark_small v (256 * k + (8 * j + b))) 8

    keep_octets : (x : ℕ) (xs : List ℕ) → x < 256 → AreOctets xs → AreOctets (keep x xs)
    keep_octets zero [] h a = AreOctets-nil
    keep_octets (suc n) [] h a = AreOctets-cons (suc n) [] h AreOctets-nil
    keep_octets x (y ∷ ys) h a = AreOctets-cons x (y ∷ ys) h a

    trimmed_octets : (xs : List ℕ) → AreOctets xs → AreOctets (trimmed xs)
    trimmed_octets [] a = AreOctets-nil
    trimmed_octets (x ∷ xs) a = keep_octets x (trimmed xs) (AreOctets-head x xs a) (trimmed_octets xs (AreOctets-tail x xs a))

blocks_octets : (bs : List Block) → AllByRecursion IsBlock bs → AllByRecursion (λ (b : Block). AreOctets b.1) bs → AreOctets (flat_map block bs)
blocks_octets [] f a = AreOctets-nil
blocks_octets (b ∷ bs) f a =
    let number = f.0.number in
    let most = f.0.most in
    AreOctets-append (block b) (flat_map block bs) (AreOctets-cons b.0 (length b.1 ∷ b.1) number (AreOctets-cons (length b.1) b.1 (omega arith) a.0))
    (blocks_octets bs f.1 a.1)

pub minimal_octets : (v : List ℕ) → AreOctets (flat_map block (minimal v))
minimal_octets v = blocks_octets (minimal v) (minimal_fit v) (minimal_all (λ (b : Block). AreOctets b.1) v (λ k l some. window_octets v k))

-- ---- one field, and all

pub field_octets_are : (m : List ℕ) (p : ℕ) (k : Kind) (v : Value k) (q : ℕ) → AreOctets m → Field m p k v q → AreOctets (field_octets k v)
unfolding field_octets
field_octets_are m p (Number w) v q a f = AreOctets-number w v
field_octets_are m p Name v q a f = lowered_octets v.labels (labels_stand f.is.stands) (labels_octets a f.is.stands)
field_octets_are m p Rest v q a f = AreOctets-at m p v q a f.is
field_octets_are m p Options v q a f =
    let all = options_octets m p v q _ a f.is in
    AreOctets-flat_map (λ x. x) (sorted octets_cmp (map tlv (option_tlvs v))) (sorted_all octets_cmp AreOctets (map tlv (option_tlvs v)) all)
field_octets_are m p Parameters v q a f =
    tlvs_octets (parameter_tlvs v) (held_octets ParameterHeld parameter_octets (λ k d w h o. body_octets d w h.2 o) f.is.read v f.is.held
    (AreOctets-at m p (tlvs f.is.read) q a f.is.at))
field_octets_are m p Bitmap v q a f = minimal_octets v
field_octets_are m p k v q a f = AreOctets-at m p _ q a f.is.1

pub canonical_octets_are : OctetsLaw
canonical_octets_are m p [] v e a f = AreOctets-nil
canonical_octets_are m p (k ∷ s) v e a f =
    AreOctets-append (field_octets k v.0) (canonical s v.1) (field_octets_are m p k v.0 f.0 a f.1) (canonical_octets_are m f.0 s v.1 e a f.2)
