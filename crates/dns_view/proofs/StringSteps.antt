-- Character strings, one after the other.
use Rattle.std.proofs.Common.{◌≡◌, ℕ, zero, suc, ◌+◌, ◌-◌, ◌<◌, ◌≤◌, inl, inr}
use Rattle.std.proofs.Common.{List, [], ◌∷◌, ◌++◌, length, take, drop, get_or, append_assoc, refl, sym, ap, ◌∙◌, arith}
use Rattle.std.proofs.lemmas.List.{length-append, length-take, take_at, drop_at, take-append-drop, take_rest}
use Rattle.std.proofs.lemmas.Bool.{le-leb}
use Rattle.std.proofs.lemmas.Bool.Decides.{leb_tells}
use Rattle.std.specs.List.{flat_map}
use Rattle.dns_fields.specs.Tlvs.{string}
use Rattle.dns_view.specs.StringList.{strings_after, NoString}

behind : (n : ℕ) (s : List ℕ) → strings_after n s ≡ strings_after zero (drop n s)
behind zero s = refl
behind (suc n) [] = refl
behind (suc n) (c ∷ s) = behind n s

-- the first string, if it is whole
pub string_whole : (c : ℕ) (s : List ℕ) → c ≤ length s → strings_after zero (c ∷ s) ≡ take c s ∷ strings_after zero (drop c s)
string_whole c s h = rw (le-leb c (length s) h, behind c s) refl

pub first_string : (s rest : List ℕ) → strings_after zero (string s ++ rest) ≡ s ∷ strings_after zero rest
first_string s rest =
    let n = length-append s rest in
    string_whole (length s) (s ++ rest) (omega arith)
    ∙ ap (λ (x : List ℕ). x ∷ strings_after zero (drop (length s) (s ++ rest))) (take_at s rest (length s) refl)
    ∙ ap (λ (x : List ℕ). s ∷ strings_after zero x) (drop_at s rest (length s) refl)

split : (c : ℕ) (s : List ℕ) → c ≤ length s → c ∷ s ≡ string (take c s) ++ drop c s
split c s h =
    let n : length (take c s) ≡ c = omega (arith, length-take c s) in
    rw n (ap (λ (x : List ℕ). c ∷ x) (sym (take-append-drop c s)))

-- none is whole
pub no_string : (s : List ℕ) → NoString s → strings_after zero s ≡ []
no_string [] n = refl
no_string (c ∷ s) n = elim (leb_tells c (length s)) [
  | inl h ↦ absurd (n.none (take c s) (drop c s) (split c s h.1))
  | inr h ↦ rw h.0 refl
]

pub strings_are : (v : List (List ℕ)) (rest : List ℕ) → NoString rest → strings_after zero (flat_map string v ++ rest) ≡ v
strings_are [] rest n = no_string rest n
strings_are (s ∷ v) rest n =
    ap (strings_after zero) (append_assoc (string s) (flat_map string v) rest) ∙ first_string s (flat_map string v ++ rest)
    ∙ ap (λ (x : List (List ℕ)). s ∷ x) (strings_are v rest n)

-- a string is taken
pub next_string : (s : List ℕ) (n : ℕ) → 0 < length s → n ≡ get_or s 0 0 → n ≤ length s - 1
    → strings_after zero s ≡ take (1 + n - 1) (drop 1 s) ∷ strings_after zero (take (length s - (1 + n)) (drop (1 + n) s))
next_string [] n some is fits = absurd (omega (arith, some))
next_string (c ∷ s) n some is fits =
    let size : 1 + n - 1 ≡ n = omega arith in
    let more : 1 + n ≡ suc n = omega arith in
    let all : take (length (c ∷ s) - (1 + n)) (drop (1 + n) (c ∷ s)) ≡ drop n s = take_rest (c ∷ s) (1 + n) ∙ ap (λ (k : ℕ). drop k (c ∷ s)) more in
    ap (λ (k : ℕ). strings_after zero (k ∷ s)) (sym is) ∙ string_whole n s (omega (arith, fits))
    ∙ ap (λ (k : ℕ). take k s ∷ strings_after zero (drop n s)) (sym size)
    ∙ ap (λ (r : List ℕ). take (1 + n - 1) s ∷ strings_after zero r) (sym all)

pub no_octets : NoString []
no_octets = record { none = λ s rest e. cc }
