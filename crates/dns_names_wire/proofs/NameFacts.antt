-- What a name is by its octets.
use Rattle.std.proofs.lemmas.Option.{slice_get_past, slice_get_read, slice_get-get_or, slice_get-map}
use Rattle.std.proofs.lemmas.List.{length-map, length-append, get_or_push, Elements.All-nil, Elements.All-cons}
use Rattle.std.proofs.{lemmas.Slice.Eq.bytes_eq-Decides, lemmas.Bool.Decides.Decides-and, Common.◌∙◌, Common.arith, Math.ListN.get_or-append}
use Rattle.std.proofs.Common.{◌≡◌, ◌↔◌, IsTrue, ℕ, ◌+◌, ◌<◌, Bool, Option, Some, None, List, [], ◌∷◌, ◌++◌, All, length, map, get_or, slice_get, refl, sym, ap}
use Rattle.std.specs.{Char.to_ascii_lowercase, Bool.Decides, Bool.beq, Cmp.booleans_Decides, List.AllByRecursion, Option.option_map, Str.bytes_eq}
use Rattle.dns_fields.specs.{Labels.DomainName, Labels.wire, Labels.lowname, Comparing.name_eq, Octets.AreOctets}
use Rattle.dns_fields.proofs.OctetLaws.{wire_octets, AreOctets-same}
use Rattle.dns_labels.specs.Labels.{AreNameOctets, labels_of, name_of}
use Rattle.dns_labels.proofs.Lowered.{lowered-of}

each_octets : (labels : List (List ℕ)) → AllByRecursion AreOctets labels → All AreOctets labels
each_octets [] h = All-nil AreOctets
each_octets (label ∷ labels) h = All-cons AreOctets label labels h.0 (each_octets labels h.1)

pub name_octets : (octets : List ℕ) → AreNameOctets octets → AreOctets octets → All AreOctets (labels_of octets)
name_octets octets n a = each_octets (labels_of octets) (wire_octets (labels_of octets) (AreOctets-same octets (wire (labels_of octets)) n.same a))

pub name_length : (octets : List ℕ) (mark : Bool) → AreNameOctets octets → length octets + 1 ≡ length (lowname (name_of octets mark))
name_length octets mark n =
    omega (arith, ap length (lowered-of octets n), length-append (map to_ascii_lowercase octets) (0 ∷ []), length-map octets to_ascii_lowercase)

get_first : (xs ys : List ℕ) (i : ℕ) → i < length xs → slice_get (xs ++ ys) i ≡ slice_get xs i
get_first xs ys i h =
    slice_get-get_or (xs ++ ys) i 0 (omega (arith, h, length-append xs ys)) ∙ ap (λ (x : ℕ). Some x) (get_or-append xs ys 0 i h) ∙ sym (slice_get-get_or xs i 0 h)

get_end : (xs : List ℕ) (y i : ℕ) → i ≡ length xs → slice_get (xs ++ y ∷ []) i ≡ Some y
get_end xs y i e = slice_get-get_or (xs ++ y ∷ []) i y (omega (arith, e, length-append xs (y ∷ []))) ∙ ap (λ (x : ℕ). Some x) (get_or_push xs y y i (sym e))

-- the canonical octet at an index of the octets, at their end, and past it
pub octet_within : (octets : List ℕ) (mark : Bool) (i x : ℕ) → AreNameOctets octets → i < length octets → x ≡ get_or octets i x
    → slice_get (lowname (name_of octets mark)) i ≡ Some (to_ascii_lowercase x)
octet_within octets mark i x n h e =
    ap (λ (l : List ℕ). slice_get l i) (lowered-of octets n)
    ∙ get_first (map to_ascii_lowercase octets) (0 ∷ []) i (omega (arith, length-map octets to_ascii_lowercase))
    ∙ slice_get-map to_ascii_lowercase octets i
    ∙ ap (λ (o : Option ℕ). option_map to_ascii_lowercase o) (slice_get_read octets (length octets) i x refl h e)

pub octet_last : (octets : List ℕ) (mark : Bool) (i : ℕ) → AreNameOctets octets → i ≡ length octets → slice_get (lowname (name_of octets mark)) i ≡ Some 0
octet_last octets mark i n h =
    ap (λ (l : List ℕ). slice_get l i) (lowered-of octets n)
    ∙ get_end (map to_ascii_lowercase octets) 0 i (h ∙ sym (length-map octets to_ascii_lowercase))

pub octet_past : (octets : List ℕ) (mark : Bool) (i : ℕ) → AreNameOctets octets → length octets < i → slice_get (lowname (name_of octets mark)) i ≡ None
octet_past octets mark i n h = slice_get_past (lowname (name_of octets mark)) i (omega (arith, name_length octets mark n))

-- names are equal where their canonical octets and their marks are the same
name_eq-Decides : (x y : DomainName) → Decides (name_eq x y) ((lowname x ≡ lowname y) × (x.fully_qualified ≡ y.fully_qualified))
name_eq-Decides x y = Decides-and (bytes_eq (lowname x) (lowname y)) (beq x.fully_qualified y.fully_qualified) (bytes_eq-Decides (lowname x) (lowname y))
    (booleans_Decides x.fully_qualified y.fully_qualified)

pub name_eq_exact : (r : Bool) (x y : DomainName) → r ≡ name_eq x y → IsTrue r ↔ ((lowname x ≡ lowname y) × (x.fully_qualified ≡ y.fully_qualified))
name_eq_exact r x y e = rw e (name_eq-Decides x y)
