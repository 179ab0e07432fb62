-- A name's lowered octets.
use Rattle.std.proofs.Common.{◌≡◌, ◌↔◌, IsTrue, ℕ, ◌≤◌, Bool, true, List, [], ◌∷◌, ◌++◌, length, map, refl, sym, ◌∙◌, ap, append_assoc, arith}
use Rattle.std.proofs.lemmas.{Bool.Decides.nat_tests, Bool.Decides.same_from_decides, List.map-append, List.append_cancel_right}
use Rattle.std.proofs.{lemmas.Slice.Eq.bytes_eq-Decides, Math.Bool.and-true}
use Rattle.std.specs.{Ordering.nat_cmp, Ordering.ordering_then, declared.cmp.Ordering.Ordering, Cmp.Lexicographic.slice_cmp, Char.to_ascii_lowercase}
use Rattle.std.specs.{Prelude.◌&&◌, Str.bytes_eq}
use Rattle.dns_fields.specs.Labels.{AreLabels, wire, low_labels, lowered}
use Rattle.dns_fields.proofs.NameLaws.{low_wire}
use Rattle.dns_labels.specs.{Labels.labels_of, Labels.AreNameOctets, Comparing.lowered_octets}
use Rattle.dns_labels.proofs.Octets.{same_wire}

kept : (n : ℕ) → n ≤ 63 → to_ascii_lowercase n ≡ n
kept n h = grind (arith, nat_tests)

lowered-wire : (labels : List (List ℕ)) → AreLabels labels → lowered labels ≡ map to_ascii_lowercase (wire labels) ++ 0 ∷ []
lowered-wire [] h = refl
lowered-wire (l ∷ labels) h =
    let f : List ℕ → List ℕ = map to_ascii_lowercase in
    rw (kept (length l) h.0.1, map-append to_ascii_lowercase l (wire labels), append_assoc (f l) (f (wire labels)) (0 ∷ []), lowered-wire labels h.1) refl

-- a name's canonical octets, from its octets
pub lowered-of : (octets : List ℕ) → AreNameOctets octets → lowered (labels_of octets) ≡ lowered_octets octets
lowered-of octets n = lowered-wire (labels_of octets) n.are ∙ ap (λ (t : List ℕ). map to_ascii_lowercase t ++ 0 ∷ []) (sym n.same)

-- a least octet at both ends changes no order
slice_cmp-zero : (a b : List ℕ) → slice_cmp nat_cmp (a ++ 0 ∷ []) (b ++ 0 ∷ []) ≡ slice_cmp nat_cmp a b
slice_cmp-zero [] [] = refl
slice_cmp-zero [] (y ∷ []) = grind (arith, nat_tests)
slice_cmp-zero [] (y ∷ z ∷ b) = grind (arith, nat_tests)
slice_cmp-zero (x ∷ []) [] = grind (arith, nat_tests)
slice_cmp-zero (x ∷ z ∷ a) [] = grind (arith, nat_tests)
slice_cmp-zero (x ∷ a) (y ∷ b) = ap (λ (o : Ordering). ordering_then (nat_cmp x y) o) (slice_cmp-zero a b)

pub compared : (a b : List ℕ) → AreNameOctets a → AreNameOctets b
    → slice_cmp nat_cmp (map to_ascii_lowercase a) (map to_ascii_lowercase b) ≡ slice_cmp nat_cmp (lowered (labels_of a)) (lowered (labels_of b))
compared a b h k = rw (lowered-of a h, lowered-of b k) (sym (slice_cmp-zero (map to_ascii_lowercase a) (map to_ascii_lowercase b)))

pub same_lowered : (a b : List ℕ) (r : Bool) → AreNameOctets a → AreNameOctets b → (IsTrue r ↔ (map to_ascii_lowercase a ≡ map to_ascii_lowercase b))
    → r ≡ bytes_eq (lowered (labels_of a)) (lowered (labels_of b))
same_lowered a b r h k t =
    let x : List ℕ = map to_ascii_lowercase a in
    let y : List ℕ = map to_ascii_lowercase b in
    let d = bytes_eq-Decides (x ++ 0 ∷ []) (y ++ 0 ∷ []) in
    rw (lowered-of a h, lowered-of b k) (same_from_decides r (bytes_eq (x ++ 0 ∷ []) (y ++ 0 ∷ [])) t
    (λ s. append_cancel_right x y (0 ∷ []) (d.0 s), λ s. d.1 (ap (λ (l : List ℕ). l ++ 0 ∷ []) s)))

pub with_mark : (a b : List ℕ) (r m : Bool) → AreNameOctets a → AreNameOctets b → m ≡ true
    → (IsTrue r ↔ (map to_ascii_lowercase a ≡ map to_ascii_lowercase b)) → r ≡ (bytes_eq (lowered (labels_of a)) (lowered (labels_of b)) && m)
with_mark a b r m h k same t = rw same (same_lowered a b r h k t ∙ sym (and-true (bytes_eq (lowered (labels_of a)) (lowered (labels_of b)))))

-- canonical octets are the same where the lowered labels are
pub low_labels_same : (a b : List (List ℕ)) → (lowered a ≡ lowered b) ↔ (map (map to_ascii_lowercase) a ≡ map (map to_ascii_lowercase) b)
low_labels_same a b = (
  λ e. same_wire (low_labels a) (low_labels b) (append_cancel_right (wire (low_labels a)) (wire (low_labels b)) (0 ∷ []) (low_wire a ∙ e ∙ sym (low_wire b))),
  λ e. sym (low_wire a) ∙ ap (λ (l : List (List ℕ)). wire l ++ 0 ∷ []) e ∙ low_wire b,
)
