-- Names put together.
use Rattle.std.proofs.Common.{◌≡◌, ℕ, ◌+◌, ◌<◌, ◌≤◌, Option, List, [], ◌∷◌, ◌++◌, length, map, take, drop, get_or, sym, ap, ◌∙◌, arith, subst}
use Rattle.std.proofs.Common.{append_assoc, Result, Ok, Err}
use Rattle.std.proofs.lemmas.List.{length-append, length-map, map-append, append_cancel_right, take_at, drop_more, take-append-drop}
use Rattle.std.specs.{Char.to_ascii_lowercase, Result.IfErr}
use Rattle.dns_types.specs.declared.error.ProtoError.{ProtoError}
use Rattle.dns_types.specs.declared.error.ProtoError.TheVariants as proto
use Rattle.dns_fields.specs.Labels.{DomainName, AreLabels, IsName, wire, low_labels}
use Rattle.dns_fields.proofs.{NameLaws.are_low, NameLaws.low_wire, Runs.wire-append}
use Rattle.dns_labels.specs.{Labels.AreNameOctets, Labels.labels_of, Text.IsNameText}
use Rattle.dns_labels.proofs.{Built.AreJoined, Lowered.lowered-of, NameTexts.one_name, Octets.labels_from, Octets.are_name_octets, Octets.first_label}
use Rattle.dns_names_wire.specs.NameValues.{qualified, completed, IsParsed, IsTextError}

pub wire_low : (octets : List ℕ) → AreNameOctets octets → map to_ascii_lowercase octets ≡ wire (low_labels (labels_of octets))
wire_low octets n = append_cancel_right (map to_ascii_lowercase octets) (wire (low_labels (labels_of octets))) (0 ∷ [])
    (sym (lowered-of octets n) ∙ sym (low_wire (labels_of octets)))

-- lowered octets are the lowered labels
pub octets_low : (octets : List ℕ) → AreNameOctets octets → AreJoined (map to_ascii_lowercase octets) (low_labels (labels_of octets))
octets_low octets n =
    let low = low_labels (labels_of octets) in
    let same = wire_low octets n in
    let size : length (map to_ascii_lowercase octets) ≡ length octets = length-map octets to_ascii_lowercase in
    record {
      labels_are = labels_from (map to_ascii_lowercase octets) low same;
      octets = are_name_octets (map to_ascii_lowercase octets) low (are_low (labels_of octets) n.are) (omega (arith, n.room, size, ap length same)) same;
    }

lowered_all : (octets items low : List ℕ) (n : ℕ) → items ≡ octets → n ≡ length items → low ≡ map to_ascii_lowercase items
    → take n (low ++ drop (length low) items) ≡ map to_ascii_lowercase octets
lowered_all octets items low n same size e = take_at low (drop (length low) items) n (ap length e ∙ length-map items to_ascii_lowercase ∙ sym size) ∙ e
    ∙ ap (λ (x : List ℕ). map to_ascii_lowercase x) same

-- what lowering all the octets of a vector leaves of them is the name in lower case
pub vector_low : (octets items low : List ℕ) (n : ℕ) → AreNameOctets octets → items ≡ octets → n ≡ length items → low ≡ map to_ascii_lowercase items
    → AreJoined (take n (low ++ drop (length low) items)) (low_labels (labels_of octets))
vector_low octets items low n are same size e = rw (lowered_all octets items low n same size e) (octets_low octets are)

-- what is behind the first label
pub rest_labels : (octets : List ℕ) → AreNameOctets octets → 1 ≤ length octets → labels_of (drop (get_or octets 0 0 + 1) octets) ≡ drop 1 (labels_of octets)
rest_labels octets n some = sym (ap (λ (l : List (List ℕ)). drop 1 l) (first_label octets n some).split)

are_front : (a b : List (List ℕ)) → AreLabels (a ++ b) → AreLabels a
are_front [] b h = tt
are_front (l ∷ a) b h = (h.0, are_front a b h.1)

-- the front of a name's labels is a name
pub name_front : (a b : List (List ℕ)) → IsName (qualified (a ++ b)) → IsName (qualified a)
name_front a b h = record { labels = are_front a b h.labels; fits = omega (arith, h.fits, ap length (wire-append a b), length-append (wire a) (wire b)) }

-- a label that does not fit behind those in front of it fits no name
pub no_more : {X : Type 0} (f : X → List ℕ) (items : List X) (i : ℕ) (d : X) (front : List (List ℕ)) → i < length items → front ≡ map f (take i items)
    → (IsName (qualified (front ++ f (get_or items i d) ∷ [])) → ⊥) → IsName (qualified (map f items)) → ⊥
no_more {X} f items i d front h e none is =
    let label = f (get_or items i d) in
    let rest = map f (drop (i + 1) items) in
    let split : map f items ≡ map f (take i items) ++ map f (drop i items) = ap (λ (x : List X). map f x) (sym (take-append-drop i items))
    ∙ map-append f (take i items) (drop i items) in
    let whole : map f items ≡ front ++ (label ∷ rest) = split ∙ ap (λ (x : List (List ℕ)). x ++ map f (drop i items)) (sym e)
    ∙ ap (λ (x : List X). front ++ map f x) (drop_more items i d h) in
    none (name_front (front ++ label ∷ []) rest (subst (λ (x : List (List ℕ)). IsName (qualified x)) (whole ∙ sym (append_assoc front (label ∷ []) rest)) is))

-- a text's name is the one that the origin completes
none_parsed : {text : List ℕ} {origin : Option DomainName} {read : DomainName} → IsNameText read text → (IsName (completed read origin) → ⊥)
    → (x : DomainName) → IsParsed text origin x → ⊥
none_parsed {text} {origin} {read} is none x p =
    none (subst IsName (p.same ∙ ap (λ (y : DomainName). completed y origin) (one_name text p.read read p.is_text is)) p.is_name)

pub error_map : (e : ProtoError) (P Q : Type 0) → (P → Q) → IsTextError e P → IsTextError e Q
error_map proto.Memory P Q f h = tt
error_map (proto.Message t) P Q f h = f h
error_map e P Q f h = h

pub refused_parsed : {T : Type 0} {text : List ℕ} (origin : Option DomainName) {read : DomainName} (r : Result T ProtoError) → IsNameText read text
    → IfErr r (λ e. IsTextError e (IsName (completed read origin) → ⊥)) → IfErr r (λ e. IsTextError e ((x : DomainName) → IsParsed text origin x → ⊥))
refused_parsed origin (Ok x) is h = tt
refused_parsed {text = text} origin {read = read} (Err e) is h =
    error_map e (IsName (completed read origin) → ⊥) ((x : DomainName) → IsParsed text origin x → ⊥) (none_parsed is) h
