-- A character string by its octets.
use Rattle.std.proofs.Common.{◌≡◌, ℕ, ◌+◌, ◌%◌, List, [], ◌∷◌, ◌++◌, length, take, drop, refl, sym, ap, ◌∙◌, arith, subst}
use Rattle.std.proofs.lemmas.List.{length-append, drop-drop, take-take, take_at, drop_at, drop-take, take-append-drop}
use Rattle.std.proofs.Math.Nat.{mod-eq_of_lt}
use Rattle.dns_names_wire.specs.{State.Reading, Terms.TookField}
use Rattle.dns_fields.specs.{declared.Kind.TheVariants.Number, declared.Kind.TheVariants.Octets, declared.Kind.TheVariants.CharacterString}
use Rattle.dns_fields.specs.{declared.Kind.TheVariants.Rest, Fields.Field, Octets.At}

-- the front and the rest of octets that stand
pub at_front : {m : List ℕ} {p r : ℕ} (x y : List ℕ) → At m p (x ++ y) r → At m p x (p + length x)
at_front {m} {p} {r} x y a =
    let n : length (x ++ y) ≡ length x + length y = length-append x y in
    let short : take (length x) (take (length (x ++ y)) (drop p m)) ≡ take (length x) (drop p m) =
    take-take (length x) (length (x ++ y)) (drop p m) (omega arith) in
    record { ends = refl; within = omega (arith, a.ends, a.within); same = sym short ∙ ap (take (length x)) a.same ∙ take_at x y (length x) refl }

pub at_rest : {m : List ℕ} {p r : ℕ} (x y : List ℕ) → At m p (x ++ y) r → At m (p + length x) y r
at_rest {m} {p} {r} x y a =
    let n : length (x ++ y) ≡ length x + length y = length-append x y in
    record {
      ends = omega (arith, a.ends);
      within = a.within;
      same = ap (λ (d : List ℕ). take (length y) d) (sym (drop-drop (length x) p m)) ∙ sym (drop-take (length x) (length y) (drop p m))
          ∙ ap (λ (k : ℕ). drop (length x) (take k (drop p m))) (sym n) ∙ ap (drop (length x)) a.same ∙ drop_at x y (length x) refl;
    }

pub at_then : {m : List ℕ} {p q r : ℕ} {x y : List ℕ} → At m p x q → At m q y r → At m p (x ++ y) r
at_then {m} {p} {q} {r} {x} {y} a b = record {
  ends = omega (arith, a.ends, b.ends, length-append x y);
  within = b.within;
  same =
      let n : length (x ++ y) ≡ length x + length y = length-append x y in
      let front : take (length x) (take (length x + length y) (drop p m)) ≡ x = take-take (length x) (length x + length y) (drop p m) (omega arith) ∙ a.same in
      let back : drop (length x) (take (length x + length y) (drop p m)) ≡ y = drop-take (length x) (length y) (drop p m)
      ∙ ap (take (length y)) (drop-drop (length x) p m ∙ ap (λ (k : ℕ). drop k m) (sym a.ends)) ∙ b.same in
      ap (λ (k : ℕ). take k (drop p m)) n ∙ sym (take-append-drop (length x) (take (length x + length y) (drop p m)))
      ∙ ap (λ (z : List ℕ). z ++ drop (length x) (take (length x + length y) (drop p m))) front ∙ ap (λ (z : List ℕ). x ++ z) back;
}

octet_at : {m : List ℕ} {p : ℕ} {n : ℕ} {q : ℕ} → Field m p (Number 1) n q → At m p (n ∷ []) q
octet_at {m} {p} {n} {q} f = let e : n % 256 ≡ n = mod-eq_of_lt f.is.0 in subst (λ (k : ℕ). At m p (k ∷ []) q) e f.is.1

-- ---- a character string is an octet of length, and the octets

pub text_then : {d b e : Reading} {n : ℕ} {s : List ℕ} → TookField d (Number 1) n b → TookField b Rest s e → length s ≡ n → TookField d CharacterString s e
text_then {d} {b} {e} {n} {s} f g len = record {
  message = g.message ∙ f.message;
  field = record {
    is = (
      omega (arith, f.field.is.0),
      at_then (subst (λ (k : ℕ). At d.message d.index (k ∷ []) b.index) (sym len) (octet_at f.field))
          (subst (λ (m : List ℕ). At m b.index s e.index) f.message g.field.is),
    );
  };
}

-- the octets of the length that was read, behind it
pub text_taken : {d b e : Reading} {n : ℕ} {s : List ℕ} → TookField d (Number 1) n b → TookField b (Octets n) s e → TookField d CharacterString s e
text_taken f g = text_then f (record { message = g.message; field = record { is = g.field.is.1 } }) g.field.is.0
