-- Octets that two runs gave.
use Rattle.std.proofs.lemmas.List.{drop-drop, take-append-drop, map-append, take_all, length-drop, length-map}
use Rattle.std.proofs.{Common.◌∙◌, Common.arith, Common.append_assoc, Common.length-append, Common.length-take-le, Math.Seq.take-add}
use Rattle.std.proofs.Common.{◌≡◌, ℕ, ◌+◌, ◌-◌, ◌≤◌, Bool, true, false, true≢false, not, nat_eq, List, [], ◌∷◌, ◌++◌, length, take, drop, map, refl, sym, ap}
use Rattle.std.specs.{Cmp.Lexicographic.pointwise, Cmp.Lexicographic.pointwise_decides, Char.to_ascii_lowercase, Cmp.unsigned_Decides, Bool.beq}
use Rattle.dns_labels.specs.Comparing.{lowered_octets}
use Rattle.dns_canonical.specs.Runs.{Shares, tail_octets}

pub shares_both : {n m : ℕ} {a b c d e f : List ℕ} → Shares n a b d e → Shares m b c e f → Shares (n + m) a c d f
shares_both {n} {m} {a} {b} {c} {d} {e} {f} g h = record {
  shared = g.shared ++ h.shared;
  count = length-append g.shared h.shared ∙ omega (arith, g.count, h.count);
  left = g.left ∙ ap (λ (x : List ℕ). g.shared ++ x) h.left ∙ sym (append_assoc g.shared h.shared c);
  right = g.right ∙ ap (λ (x : List ℕ). g.shared ++ x) h.right ∙ sym (append_assoc g.shared h.shared f);
}

later : (at n : ℕ) (xs t : List ℕ) → drop at xs ++ t ≡ take n (drop at xs) ++ (drop (at + n) xs ++ t)
later at n xs t =
    ap (λ (l : List ℕ). l ++ t) (sym (take-append-drop n (drop at xs)) ∙ ap (λ (l : List ℕ). take n (drop at xs) ++ l) (drop-drop n at xs))
    ∙ append_assoc (take n (drop at xs)) (drop (at + n) xs) t

pub whole : (n : ℕ) (xs : List ℕ) → take (length xs - n) (drop n xs) ≡ drop n xs
whole n xs = take_all (length xs - n) (drop n xs) (omega (arith, length-drop n xs))

-- what the heads have in common from their indices on
pub heads_share : (n at at' : ℕ) (head head' t t' : List ℕ) → n ≤ length (take (length head - at) (drop at head))
    → take n (take (length head - at) (drop at head)) ≡ take n (take (length head' - at') (drop at' head'))
    → Shares n (drop at head ++ t) (drop (at + n) head ++ t) (drop at' head' ++ t') (drop (at' + n) head' ++ t')
heads_share n at at' head head' t t' few same =
    let e : take n (drop at head) ≡ take n (drop at' head') = ap (take n) (sym (whole at head)) ∙ same ∙ ap (take n) (whole at' head') in
    record {
      shared = take n (drop at head);
      count = length-take-le n (drop at head) (omega (arith, few, ap length (whole at head)));
      left = later at n head t;
      right = later at' n head' t' ∙ ap (λ (l : List ℕ). l ++ (drop (at' + n) head' ++ t')) (sym e);
    }

names_left : (n : ℕ) (rest : List ℕ) → lowered_octets rest ≡ map to_ascii_lowercase (take n rest) ++ lowered_octets (take (length rest - n) (drop n rest))
names_left n rest =
    ap lowered_octets (sym (take-append-drop n rest))
    ∙ ap (λ (l : List ℕ). l ++ 0 ∷ []) (map-append to_ascii_lowercase (take n rest) (drop n rest))
    ∙ append_assoc (map to_ascii_lowercase (take n rest)) (map to_ascii_lowercase (drop n rest)) (0 ∷ [])
    ∙ ap (λ (l : List ℕ). map to_ascii_lowercase (take n rest) ++ lowered_octets l) (sym (whole n rest))

octets_left : (n : ℕ) (rest : List ℕ) → rest ≡ take n rest ++ take (length rest - n) (drop n rest)
octets_left n rest = sym (take-append-drop n rest) ∙ ap (λ (l : List ℕ). take n rest ++ l) (sym (whole n rest))

pub names_share : (n : ℕ) (rest rest' : List ℕ) → n ≤ length rest
    → map to_ascii_lowercase (take n rest) ≡ map to_ascii_lowercase (take n rest')
    → Shares n (tail_octets rest true) (tail_octets (take (length rest - n) (drop n rest)) true) (tail_octets rest' true) (tail_octets (take (length rest' - n) (drop n rest')) true)
names_share n rest rest' short same = record {
  shared = map to_ascii_lowercase (take n rest);
  count = length-map (take n rest) to_ascii_lowercase ∙ length-take-le n rest short;
  left = names_left n rest;
  right = names_left n rest' ∙ ap (λ (x : List ℕ). x ++ lowered_octets (take (length rest' - n) (drop n rest'))) (sym same);
}

pub rests_share : (n : ℕ) (rest rest' : List ℕ) → n ≤ length rest → take n rest ≡ take n rest'
    → Shares n (tail_octets rest false) (tail_octets (take (length rest - n) (drop n rest)) false) (tail_octets rest' false) (tail_octets (take (length rest' - n) (drop n rest')) false)
rests_share n rest rest' short same = record {
  shared = take n rest;
  count = length-take-le n rest short;
  left = octets_left n rest;
  right = octets_left n rest' ∙ ap (λ (x : List ℕ). x ++ take (length rest' - n) (drop n rest')) (sym same);
}

-- where the marks are not told apart, both are names or neither is
pub same_mark : (x y : Bool) → not (beq x y) ≡ false → y ≡ x
same_mark true true h = refl
same_mark true false h = absurd (true≢false h)
same_mark false false h = refl
same_mark false true h = absurd (true≢false h)

-- ---- octets that are the same behind the same octets

pub same_further : (n m : ℕ) (a b : List ℕ) → n ≤ m → take n a ≡ take n b → take (m - n) (drop n a) ≡ take (m - n) (drop n b) → take m a ≡ take m b
same_further n m a b h same q =
    let k : m ≡ n + (m - n) = omega arith in
    ap (λ (j : ℕ). take j a) k ∙ take-add n (m - n) a ∙ ap (λ (x : List ℕ). x ++ take (m - n) (drop n a)) same ∙ ap (λ (x : List ℕ). take n b ++ x) q ∙ sym (take-add n (m - n) b) ∙ ap (λ (j : ℕ). take j b) (sym k)

pub more_same : (n m : ℕ) (a b : List ℕ) (r : Bool) → n ≤ m → take n a ≡ take n b → r ≡ pointwise nat_eq (take (m - n) (drop n a)) (take (m - n) (drop n b))
    → r ≡ true → take m a ≡ take m b
more_same n m a b r h same e t =
    same_further n m a b h same ((pointwise_decides unsigned_Decides (take (m - n) (drop n a)) (take (m - n) (drop n b))).0 (sym e ∙ t))
