-- The octets of a name that is encoded in a message.
use Rattle.std.proofs.Common.{◌≡◌, ◌↔◌, ◌++◌, [], ◌∷◌, ℕ, Bool, true, false, true≢false, IsTrue, List, map, refl, sym, ap, subst, ◌∙◌}
use Rattle.std.proofs.{Math.Logic.∥∥₁_elim, lemmas.Map.Text.is_eq-slice_cmp, lemmas.Slice.Eq.bytes_eq-Decides}
use Rattle.std.proofs.lemmas.List.{append_cancel_right}
use Rattle.std.specs.{Bool.Decides, Ordering.is_eq, Cmp.both_ways, Char.to_ascii_lowercase}
use Rattle.std.specs.Coded.{Coded-set, coded_list, coded_ℕ}
use Rattle.std.specs.{Cmp.Lexicographic.slice_cmp, Ordering.nat_cmp, Ordering.Ordering-set, declared.cmp.Ordering.Ordering}
use Rattle.dns_fields.specs.{Labels.DomainName, Labels.lowered, Labels.lowname, Names.IsNameIn}
use Rattle.dns_fields.specs.Comparing.{name_eq}
use Rattle.dns_labels.specs.{Labels.AreNameOctets, Labels.labels_of, Labels.name_of, Comparing.lowered_octets}
use Rattle.dns_labels.proofs.Lowered.{lowered-of}
use Rattle.dns_names_wire.proofs.NameFacts.{name_eq_exact}
use Rattle.dns_names_wire.specs.NameEnds.{IsNamed}
use Rattle.dns_view.specs.LabelList.{labels_at, low_octets}
use Rattle.dns_view.proofs.LabelSteps.{labels_found}

pub low_of : {m : List ℕ} {p q : ℕ} {x : DomainName} → IsNameIn m p x q → lowname x ≡ low_octets m p
low_of is = ap lowered (sym (labels_found is))

pub low_shown : {m : List ℕ} {p : ℕ} {s : List ℕ} → ∥ IsNamed m p ∥₁ → ((x : DomainName) (q : ℕ) → IsNameIn m p x q → s ≡ lowname x) → s ≡ low_octets m p
low_shown n h = ∥∥₁_elim n (Coded-set (coded_list coded_ℕ) _ _) (λ w. h w.name w.end w.is ∙ low_of w.is)

pub plain_shown : {m : List ℕ} {p : ℕ} (octets : List ℕ) → ∥ IsNamed m p ∥₁ → ((x : DomainName) (q : ℕ) → IsNameIn m p x q → labels_of octets ≡ x.labels)
    → name_of octets true ≡ record { labels = labels_at m p; fully_qualified = true }
plain_shown {m} {p} octets n h =
    let labels : labels_of octets ≡ labels_at m p =
    ∥∥₁_elim n (Coded-set (coded_list (coded_list coded_ℕ)) _ _) (λ w. h w.name w.end w.is ∙ sym (labels_found w.is)) in
    ap (λ (l : List (List ℕ)). record { labels = l; fully_qualified = true }) labels

pub low_compared : {a b : List ℕ} {x y : ℕ} {o : Ordering} → ∥ IsNamed a x ∥₁ → ∥ IsNamed b y ∥₁
    → ((u : DomainName) (q : ℕ) (v : DomainName) (r : ℕ) → IsNameIn a x u q → IsNameIn b y v r → o ≡ slice_cmp nat_cmp (lowname u) (lowname v))
    → o ≡ slice_cmp nat_cmp (low_octets a x) (low_octets b y)
low_compared {a} {b} {x} {y} n k h = ∥∥₁_elim n (Ordering-set _ _) (λ w. ∥∥₁_elim k (Ordering-set _ _) (λ t.
    h w.name w.end t.name t.end w.is t.is ∙ ap (λ (s : List ℕ). slice_cmp nat_cmp s (lowname t.name)) (low_of w.is)
    ∙ ap (λ (s : List ℕ). slice_cmp nat_cmp (low_octets a x) s) (low_of t.is)))

pub same_octets : (a b : List ℕ) (r : Bool) → r ≡ is_eq (slice_cmp nat_cmp a b) → Decides r (a ≡ b)
same_octets a b r e = subst (λ (x : Bool). Decides x (a ≡ b)) (sym (e ∙ is_eq-slice_cmp a b)) (bytes_eq-Decides a b)

-- a fully qualified name and a relative one differ
pub other_mark : (x y : DomainName) → x.fully_qualified ≡ true → y.fully_qualified ≡ false → false ≡ name_eq x y
other_mark x y p q = both_ways false (name_eq x y) (λ h. absurd (true≢false (sym h)))
    (λ h. absurd (true≢false (sym p ∙ ((name_eq_exact (name_eq x y) x y refl).0 h).1 ∙ q)))

-- fully qualified names are equal if their octets are the same in lower case
pub same_lowered : (x y : DomainName) (a b : List ℕ) (r : Bool) → AreNameOctets a → labels_of a ≡ x.labels → lowname y ≡ lowered_octets b → x.fully_qualified ≡ true
    → y.fully_qualified ≡ true → (IsTrue r ↔ (map to_ascii_lowercase a ≡ map to_ascii_lowercase b)) → r ≡ name_eq x y
same_lowered x y a b r are labels low p q t =
    let exact = name_eq_exact (name_eq x y) x y refl in
    let first : lowname x ≡ lowered_octets a = ap lowered (sym labels) ∙ lowered-of a are in
    both_ways r (name_eq x y) (λ h. exact.1 (first ∙ ap (λ (s : List ℕ). s ++ 0 ∷ []) (t.0 h) ∙ sym low, p ∙ sym q))
    (λ h. t.1 (append_cancel_right (map to_ascii_lowercase a) (map to_ascii_lowercase b) (0 ∷ []) (sym first ∙ (exact.0 h).0 ∙ low)))
