-- Octets that stand in a message.
use Rattle.std.proofs.Common.{◌≡◌, ℕ, ◌≤◌, List, [], ◌∷◌, ◌++◌, length, take, drop, refl, suc, get_or, sym, ap, ◌∙◌, arith}
use Rattle.std.proofs.lemmas.List.{length-append, append-nil, take-append-le, drop-append-le, drop_at, take_at, length-drop}
use Rattle.dns_fields.specs.Octets.{At}

-- what is between the same offsets is the same
pub At-same_end : {m : List ℕ} {p q : ℕ} {x y : List ℕ} → At m p x q → At m p y q → x ≡ y
At-same_end {m} {p} {q} {x} {y} a b =
    let n : length x ≡ length y = omega arith in
    sym a.same ∙ ap (λ k. take k (drop p m)) n ∙ b.same

-- it stands there whatever follows
pub At-append : {m : List ℕ} {p q : ℕ} {x : List ℕ} (t : List ℕ) → At m p x q → At (m ++ t) p x q
At-append {m} {p} {q} {x} t a =
    let inside : p ≤ length m = omega arith in
    let whole : length x ≤ length (drop p m) = omega (arith, length-drop p m) in
    record {
      ends = a.ends;
      within = omega (arith, length-append m t);
      same = rw (drop-append-le p m t inside, take-append-le (length x) (drop p m) t whole) a.same;
    }

-- octets that were appended stand at the end
pub At-appended : (m x : List ℕ) → At (m ++ x) (length m) x (length (m ++ x))
At-appended m x = record {
  ends = length-append m x;
  within = omega arith;
  same = rw (drop_at m x (length m) refl) (ap (λ (y : List ℕ). take (length x) y) (sym (append-nil x)) ∙ take_at x [] (length x) refl);
}

front_head : (d : List ℕ) (n : ℕ) (xs : List ℕ) → take (suc (length xs)) d ≡ n ∷ xs → get_or d 0 0 ≡ n
front_head [] n xs e = absurd cc
front_head (b ∷ d) n xs e = cc

-- two lists at one offset begin alike
pub At-same_head : {m : List ℕ} {p q r : ℕ} {a b : ℕ} {xs ys : List ℕ} → At m p (a ∷ xs) q → At m p (b ∷ ys) r → a ≡ b
At-same_head {m} {p} {q} {r} {a} {b} {xs} {ys} h k = sym (front_head (drop p m) a xs h.same) ∙ front_head (drop p m) b ys k.same
