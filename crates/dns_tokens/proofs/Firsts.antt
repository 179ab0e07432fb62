-- How what is read from a text goes on behind what was read already.
use Rattle.std.proofs.Common.{◌≡◌, ℕ, ◌<◌, map, Bool, false, arith, List, [], ◌∷◌, ◌++◌, length, drop, get_or, refl, sym, ◌∙◌, ap, subst, append_assoc}
use Rattle.std.proofs.lemmas.List.{append-nil, drop_more, map-append}
use Rattle.dns_tokens.specs.{Octets.BeginsOtherwise, Quoted.First}

-- the first octet and what is behind it
pub opened : {s behind : List ℕ} → 0 < length s → behind ≡ drop 1 s → s ≡ get_or s 0 0 ∷ behind
opened {s} l d = drop_more s 0 0 l ∙ ap (λ (t : List ℕ). get_or s 0 0 ∷ t) (sym d)

-- what the octet behind a span fails
pub ends_octet : (p : ℕ → Bool) (s : List ℕ) → BeginsOtherwise p s → 0 < length s → p (get_or s 0 0) ≡ false
ends_octet p [] b l = absurd (omega arith)
ends_octet p (c ∷ s) b l = b

-- one element more
pub pushed : {X Y : Type 0} (f : X → Y) (old new : List X) (x : X) → new ≡ old ++ x ∷ [] → map f new ≡ map f old ++ f x ∷ []
pushed {X} f old new x e = ap (λ (l : List X). map f l) e ∙ map-append f old (x ∷ [])

-- two readings of one front, and then of one rest
pub same_behind : {V E : Type 0} (front : List V) {value later whole : List V} {rest end : E} → whole ≡ front ++ later → (value ≡ later) × (rest ≡ end)
    → (front ++ value ≡ whole) × (rest ≡ end)
same_behind {V} front e y = (ap (λ (l : List V). front ++ l) y.0 ∙ sym e, y.1)

module _ {V E : Type 0} {Reads : List V → List ℕ → E → Type 0} where
  -- nothing read yet
  pub first_none : (text : List ℕ) → First Reads [] text text
  first_none text = record { gives = λ v r q. q; only = λ v r q. (v, refl, q) }

  -- one step after another
  pub first_both : {a b : List V} {text more rest : List ℕ} → First Reads a text more → First Reads b more rest → First Reads (a ++ b) text rest
  first_both {a} {b} {text} s t = record {
    gives = λ v r q. subst (λ (x : List V). Reads x text r) (sym (append_assoc a b v)) (s.gives (b ++ v) r (t.gives v r q));
    only = λ v r q.
        let x = s.only v r q in
        let y = t.only x.0 r x.2 in
        (y.0, x.1 ∙ ap (λ (l : List V). a ++ l) y.1 ∙ sym (append_assoc a b y.0), y.2);
  }

  -- nothing more is read
  pub first_ends : {front : List V} {text more : List ℕ} {end : E} → First Reads front text more → Reads [] more end → Reads front text end
  first_ends {front} {text} {end} g q = subst (λ (x : List V). Reads x text end) (append-nil front) (g.gives [] end q)

  -- where nothing is read from the rest, nothing is read from the text
  pub first_refused : {front : List V} {text more : List ℕ} → First Reads front text more → ((later : List V) (end : E) → Reads later more end → ⊥)
      → (whole : List V) (end : E) → Reads whole text end → ⊥
  first_refused g n = λ v r q. let x = g.only v r q in n x.0 r x.2
