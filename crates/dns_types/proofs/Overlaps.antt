-- Lists that are the same up to one index, and from that index or an earlier one on.
use Rattle.std.proofs.{lemmas.List.length-drop, lemmas.List.length-take-le, lemmas.List.take-append-drop, Common.take_all, Common.nat_eq, Math.Seq.take-add}
use Rattle.std.proofs.{lemmas.Bool.and_parts, lemmas.Bool.eqb-true, lemmas.Bool.eq-eqb, Math.Bool.◌&&◌}
use Rattle.std.proofs.Common.{◌≡◌, ◌≤◌, ◌-◌, ◌∙◌, ℕ, Bool, true, false, IsTrue, ◌↔◌, List, [], ◌∷◌, take, drop, length, refl, sym, ap, suc, zero, arith}
use Rattle.std.specs.Prelude.{◌+◌, ◌++◌, replicate}

both : {X : Type 0} (i j : ℕ) (a b : List X) → j ≤ i → take i a ≡ take i b → drop j a ≡ drop j b → a ≡ b
both i zero a b before front rest = rest
both zero (suc j) a b before front rest = absurd (omega arith)
both (suc i) (suc j) [] [] before front rest = refl
both (suc i) (suc j) [] (y ∷ b) before front rest = cc
both (suc i) (suc j) (x ∷ a) [] before front rest = cc
both (suc i) (suc j) (x ∷ a) (y ∷ b) before front rest =
    let first : x ≡ y = cc in
    let others : take i a ≡ take i b = cc in
    let same : a ≡ b = both i j a b (omega arith) others rest in
    cc

-- the rest, as a slice has it
rest_of : {X : Type 0} (j : ℕ) (a : List X) → take (length a - j) (drop j a) ≡ drop j a
rest_of j a = take_all (length a - j) (drop j a) (let l = length-drop j a in omega arith)

pub overlap : {X : Type 0} (i j : ℕ) (a b : List X) → j ≤ i → take i a ≡ take i b → take (length a - j) (drop j a) ≡ take (length b - j) (drop j b) → a ≡ b
overlap i j a b before front rest = both i j a b before front (sym (rest_of j a) ∙ rest ∙ rest_of j b)

-- two answers, of the first blocks and of the last ones, tell whether lists are the same that these blocks cover
pub by_ends : {X : Type 0} (first last : Bool) (i j : ℕ) (a b : List X) → j ≤ i
    → (IsTrue first ↔ (take i a ≡ take i b))
    → (IsTrue last ↔ (take (length a - j) (drop j a) ≡ take (length b - j) (drop j b)))
    → IsTrue (first && last) ↔ (a ≡ b)
by_ends true true i j a b before front rest =
    (λ t. overlap i j a b before (front.0 t) (rest.0 t), λ same. rest.1 (ap (λ x. take (length x - j) (drop j x)) same))
by_ends true false i j a b before front rest = (λ t. absurd cc, λ same. rest.1 (ap (λ x. take (length x - j) (drop j x)) same))
by_ends false last i j a b before front rest = (λ t. absurd cc, λ same. let t = front.1 (ap (take i) same) in absurd cc)

-- lists that are the same up to an index, and in a block from there, are the same up to its end
pub further : {X : Type 0} (n m : ℕ) (a b : List X) → n ≤ m → take n a ≡ take n b → take (m - n) (drop n a) ≡ take (m - n) (drop n b) → take m a ≡ take m b
further n m a b before front block =
    let e : m ≡ n + (m - n) = omega (arith, before) in
    ap (λ i. take i a) e ∙ take-add n (m - n) a ∙ ap (λ l. l ++ take (m - n) (drop n a)) front ∙ ap (λ l. take n b ++ l) block
    ∙ sym (take-add n (m - n) b) ∙ sym (ap (λ i. take i b) e)

-- the answer of the last block, where all before it is known to be the same
pub by_last : {X : Type 0} (last : Bool) (i j : ℕ) (a b : List X) → j ≤ i → take i a ≡ take i b
    → (IsTrue last ↔ (take (length a - j) (drop j a) ≡ take (length b - j) (drop j b)))
    → IsTrue last ↔ (a ≡ b)
by_last last i j a b before front rest = by_ends true last i j a b before ((λ _. front), (λ _. refl)) rest

-- two answers to one question are the same
pub one_answer : {P : Type 0} (a b : Bool) → (IsTrue a ↔ P) → (IsTrue b ↔ P) → a ≡ b
one_answer true true x y = refl
one_answer true false x y = absurd (let t = y.1 (x.0 refl) in cc)
one_answer false true x y = absurd (let t = x.1 (y.0 refl) in cc)
one_answer false false x y = refl

-- lists of one length that go on with zeros only: whether their beginnings are the same, told by the whole
pub by_whole : (same : Bool) (m n N : ℕ) (a b : List ℕ) → m ≤ N → n ≤ N → length a ≡ N → length b ≡ N
    → drop m a ≡ replicate (N - m) 0 → drop n b ≡ replicate (N - n) 0 → (IsTrue same ↔ (a ≡ b))
    → IsTrue (nat_eq m n && same) ↔ (take m a ≡ take n b)
by_whole same m n N a b m_fits n_fits a_length b_length a_rest b_rest whole = (
  (λ t.
      let parts = and_parts (nat_eq m n) same t in
      let equal : a ≡ b = whole.0 parts.1 in
      let indices : m ≡ n = eqb-true m n parts.0 in
      cc),
  (λ front.
      let a_front : length (take m a) ≡ m = length-take-le m a (omega arith) in
      let b_front : length (take n b) ≡ n = length-take-le n b (omega arith) in
      let indices : m ≡ n = sym a_front ∙ ap length front ∙ b_front in
      let rests : drop m a ≡ drop n b = cc in
      let a_whole : take m a ++ drop m a ≡ a = take-append-drop m a in
      let b_whole : take n b ++ drop n b ≡ b = take-append-drop n b in
      let equal : a ≡ b = cc in
      let answer : same ≡ true = whole.1 equal in
      let lengths : nat_eq m n ≡ true = eq-eqb m n indices in
      rw (lengths, answer) refl),
)
