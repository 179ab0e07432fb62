-- The laws of names that the grammar of fields stands on.
use Rattle.std.proofs.Common.{◌≡◌, ℕ, ◌+◌, ◌≤◌, Bool, true, List, [], ◌∷◌, ◌++◌, length, map, drop, refl, sym, ap, ◌∙◌, arith, append_assoc}
use Rattle.std.proofs.{lemmas.List.length-append, lemmas.List.length-map, lemmas.List.drop_at, lemmas.Bool.Decides.nat_tests}
use Rattle.std.specs.Char.{to_ascii_lowercase}
use Rattle.dns_fields.specs.{declared.RDataEncoding.RDataEncoding, Names.LabelsStand.whole, Names.IsNameIn, Names.SameName, Names.NameWrote}
use Rattle.dns_fields.specs.Labels.{AreLabels, wire, FitsName, DomainName, IsName, low_labels, lowered, lowname}
use Rattle.dns_fields.proofs.{Stays.labels_stand, Stays.stays_name, Stays.end_within, Unique.unique}

pub made : (x y : DomainName) → x.labels ≡ y.labels → x.fully_qualified ≡ y.fully_qualified → x ≡ y
made x y e f = let both : (x.labels, x.fully_qualified) ≡ (y.labels, y.fully_qualified) = cc in
    ap (λ (p : List (List ℕ) × Bool). record { labels = p.0; fully_qualified = p.1 }) both

-- at one offset stands at most one name, and it has one end
pub name_same : {m : List ℕ} {p q r : ℕ} {x y : DomainName} → IsNameIn m p x q → IsNameIn m p y r → (x ≡ y) × (q ≡ r)
name_same {x = x} {y = y} a b = let u = unique a.stands b.stands in (made x y u.0 (a.qualified ∙ sym b.qualified), u.1)

-- a name stands where it does whatever follows the message
pub name_append : {m : List ℕ} {p q : ℕ} {x : DomainName} (t : List ℕ) → IsNameIn m p x q → IsNameIn (m ++ t) p x q
name_append {m} {p} {q} {x} t a = stays_name m t p x q a

pub name_inside : {m : List ℕ} {p q : ℕ} {x : DomainName} → IsNameIn m p x q → (p ≤ q) × (q ≤ length m)
name_inside a = let w = end_within a.stands in (omega arith, w.1)

pub name_is : {m : List ℕ} {p q : ℕ} {x : DomainName} → IsNameIn m p x q → IsName x
name_is a = record { labels = labels_stand a.stands; fits = a.fits }

pub low_wire : (labels : List (List ℕ)) → wire (low_labels labels) ++ 0 ∷ [] ≡ lowered labels
low_wire [] = refl
low_wire (l ∷ labels) =
    rw (length-map l to_ascii_lowercase, append_assoc (map to_ascii_lowercase l) (wire (low_labels labels)) (0 ∷ []), low_wire labels) refl

lower_twice : (c : ℕ) → to_ascii_lowercase (to_ascii_lowercase c) ≡ to_ascii_lowercase c
lower_twice c = grind (arith, nat_tests)

octets_twice : (xs : List ℕ) → map to_ascii_lowercase (map to_ascii_lowercase xs) ≡ map to_ascii_lowercase xs
octets_twice [] = refl
octets_twice (x ∷ xs) = let h = lower_twice x in let t = octets_twice xs in cc

low_twice : (labels : List (List ℕ)) → lowered (low_labels labels) ≡ lowered labels
low_twice [] = refl
low_twice (l ∷ labels) =
    let n : length (map to_ascii_lowercase l) ≡ length l = length-map l to_ascii_lowercase in
    let h = octets_twice l in
    let t = low_twice labels in
    cc

pub are_low : (labels : List (List ℕ)) → AreLabels labels → AreLabels (low_labels labels)
are_low [] h = tt
are_low (l ∷ labels) h = let n = length-map l to_ascii_lowercase in let lo = h.0.0 in let hi = h.0.1 in ((omega arith, omega arith), are_low labels h.1)

low_length : (labels : List (List ℕ)) → length (wire (low_labels labels)) ≡ length (wire labels)
low_length [] = refl
low_length (l ∷ labels) = omega (
  arith,
  low_length labels,
  length-map l to_ascii_lowercase,
  length-append l (wire labels),
  length-append
      (map to_ascii_lowercase l) (wire (low_labels labels)),
)

pub lowname_length : (x : DomainName) → length (lowname x) ≡ length (wire x.labels) + 1
lowname_length x = omega (arith, ap length (low_wire x.labels), length-append (wire (low_labels x.labels)) (0 ∷ []), low_length x.labels)

-- the name in lower case, fully qualified
pub low_name : DomainName → DomainName
low_name x = record { labels = low_labels x.labels; fully_qualified = true }

pub low_name_same : (x : DomainName) → SameName x (low_name x)
unfolding low_name
low_name_same x = record { low = sym (low_twice x.labels) }

-- the canonical octets are one of the ways to write an equal name
pub low_name_wrote : (mode : RDataEncoding) (m : List ℕ) (x : DomainName) → IsName x → NameWrote mode m (low_name x) (m ++ lowname x)
unfolding low_name
low_name_wrote mode m x h =
    let are : AreLabels (low_labels x.labels) = are_low x.labels h.labels in
    let fits : FitsName (low_labels x.labels) = omega (arith, low_length x.labels, h.fits) in
    let e : lowname x ≡ wire (low_labels x.labels) ++ 0 ∷ [] = sym (low_wire x.labels) in
    let n = length-append m (lowname x) in
    let k = length-append (wire (low_labels x.labels)) (0 ∷ []) in
    let d : drop (length m) (m ++ lowname x) ≡ wire (low_labels x.labels) ++ 0 ∷ [] = drop_at m (lowname x) (length m) refl ∙ e in
    record {
      is_name = record { labels = are; fits = fits };
      tail = lowname x;
      behind = refl;
      shorter = omega (arith, ap length (low_twice x.labels));
      stands = record { stands = whole [] are d (omega (arith, n, k, ap length e)); fits = fits; qualified = refl };
      whole = λ other. ap (λ (t : List ℕ). m ++ t) e;
    }
