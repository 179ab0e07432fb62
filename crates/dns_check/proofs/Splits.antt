-- Octets that were taken are the front of those that were left.
use Rattle.std.proofs.Common.{◌≡◌, ℕ, ◌*◌, List, [], ◌∷◌, ◌++◌, length, drop, refl, sym, ap, ◌∙◌, arith, append_assoc}
use Rattle.std.specs.{List.flat_map, List.AllByRecursion, Int.bytes_high_first}
use Rattle.std.proofs.{lemmas.List.length-append, lemmas.List.drop-drop, lemmas.List.take-append-drop}
use Rattle.dns_fields.specs.{Octets.At, Tlvs.string}
use Rattle.dns_fields.proofs.{Numbers.length-bytes, Tlvs.parts}
use Rattle.dns_names_wire.specs.{State.Reading, Terms.StaysBehind}

pub at_split : {m : List ℕ} {p : ℕ} {x : List ℕ} {q : ℕ} → At m p x q → drop p m ≡ x ++ drop q m
at_split {m} {p} {x} {q} a =
    sym (take-append-drop (length x) (drop p m))
    ∙ ap (λ (l : List ℕ). l ++ drop (length x) (drop p m)) a.same
    ∙ ap (λ (l : List ℕ). x ++ l) (drop-drop (length x) p m ∙ ap (λ (k : ℕ). drop k m) (sym a.ends))

pub stays_then : {a b c : Reading} → StaysBehind a b → StaysBehind b c → StaysBehind a c
stays_then f g = record { message = g.message ∙ f.message; index = omega (arith, f.index, g.index) }

pub length_numbers : (ns : List ℕ) → length (flat_map (bytes_high_first 2) ns) ≡ 2 * length ns
length_numbers [] = refl
length_numbers (n ∷ ns) = omega (arith, length-append (bytes_high_first 2 n) (flat_map (bytes_high_first 2) ns), length-bytes 2 n, length_numbers ns)

-- ---- strings

pub string_first : (a b x y : List ℕ) → string a ++ x ≡ string b ++ y → (a ≡ b) × (x ≡ y)
string_first a b x y e =
    let f : length a ∷ (a ++ x) ≡ length b ∷ (b ++ y) = e in
    let n : length a ≡ length b = cc in
    let t : a ++ x ≡ b ++ y = cc in
    parts a x b y n t

-- strings that begin with others
pub strings_prefix : (xs ys : List (List ℕ)) (r : List ℕ) → flat_map string ys ≡ flat_map string xs ++ r
    → (rest : List (List ℕ)) × (ys ≡ xs ++ rest) × (flat_map string rest ≡ r)
strings_prefix [] ys r e = (ys, refl, e)
strings_prefix (x ∷ xs) [] r e = let f : [] ≡ length x ∷ ((x ++ flat_map string xs) ++ r) = e in absurd cc
strings_prefix (x ∷ xs) (y ∷ ys) r e =
    let f : string y ++ flat_map string ys ≡ string x ++ (flat_map string xs ++ r) = e ∙ append_assoc (string x) (flat_map string xs) r in
    let h = string_first y x (flat_map string ys) (flat_map string xs ++ r) f in
    let t = strings_prefix xs ys r h.1 in
    (t.0, ap (λ (z : List ℕ). z ∷ ys) h.0 ∙ ap (λ (zs : List (List ℕ)). x ∷ zs) t.1, t.2)

-- ---- a fact of each

pub all_behind : {T : Type 0} (P : T → Type 0) (a b : List T) → AllByRecursion P (a ++ b) → AllByRecursion P b
all_behind P [] b f = f
all_behind P (x ∷ a) b f = all_behind P a b f.1

pub all_append : {T : Type 0} (P : T → Type 0) (a b : List T) → AllByRecursion P a → AllByRecursion P b → AllByRecursion P (a ++ b)
all_append P [] b f g = g
all_append P (x ∷ a) b f g = (f.0, all_append P a b f.1 g)
