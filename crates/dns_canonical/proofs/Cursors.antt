-- Cursors: what they gave and counted in two calls.
use Rattle.std.proofs.Common.{◌≡◌, ℕ, ◌+◌, ◌-◌, ◌*◌, ◌<◌, ◌≤◌, nat_le, true, Option, Some, None, List, [], ◌∷◌, ◌++◌, length, drop, is_some, MatchOption}
use Rattle.std.proofs.Common.{if◌then◌else◌, sym, ap, ◌∙◌, arith, subst}
use Rattle.std.proofs.{lemmas.Bool.Decides.nat_tests, lemmas.List.drop-drop, Math.ListN.drop_of_length-le, Math.Seq.drop-append_seam}
use Rattle.std.specs.{List.AllByRecursion, List.list_all, Cmp.first_so, Cmp.second_so}
use Rattle.dns_fields.specs.Fields.{Value, Values, is_emittable, all_emittable}
use Rattle.dns_fields.specs.declared.Kind.{Kind, TheVariants.CharacterString, TheVariants.CharacterStrings}
use Rattle.dns_canonical.specs.{Cursor.Remaining, Cursor.Chooses, Cursor.Advances, Steps.IsShort, Steps.AllShort}

-- ---- choices of two calls

pub chooses_both : {a b c : Remaining} → Chooses a b → Chooses b c → Chooses a c
chooses_both {a} {b} {c} f g =
    let most : c.choices + 2 * a.all_options * c.options ≤ b.choices + 2 * a.all_options * b.options =
    subst (λ (n : ℕ). c.choices + 2 * n * c.options ≤ b.choices + 2 * n * b.options) f.all g.most in
    record { more = omega (arith, f.more, g.more); most = omega (arith, most, f.most); all = g.all ∙ f.all }

pub chooses_kept : {a b c : Remaining} → Chooses a b → c.choices ≡ b.choices → c.options ≡ b.options → c.all_options ≡ b.all_options → Chooses a c
chooses_kept {a} {b} {c} f e o l = record {
  more = omega (arith, f.more, e);
  most = rw (e, o) f.most;
  all = l ∙ f.all;
}

-- ---- what is left behind two calls

drop_none : (n : ℕ) (s : List ℕ) → s ≡ [] → drop n s ≡ []
drop_none n s e = drop_of_length-le s (let z : length s ≡ 0 = ap length e in omega (arith, z))

-- one octet, or none at the end
pub advances_one : (a b : Remaining) (r : Option ℕ) → MatchOption r ((a.octets ≡ []) × (b.octets ≡ [])) (λ x. a.octets ≡ x ∷ b.octets)
    → b.taken ≡ a.taken + (if is_some r then 1 else 0) → Advances a b
advances_one a b None h t = record {
  forward = omega (arith, t);
  rest = h.1 ∙ sym (drop_none (b.taken - a.taken) a.octets h.0);
}
advances_one a b (Some x) h t =
    let one : b.taken - a.taken ≡ 1 = omega (arith, t) in
    record {
      forward = omega (arith, t);
      rest = sym (ap (λ (k : ℕ). drop k a.octets) one ∙ ap (λ (s : List ℕ). drop 1 s) h);
    }

-- octets that are taken together
pub advances_by : (a b : Remaining) (shared : List ℕ) (n : ℕ) → length shared ≡ n → a.octets ≡ shared ++ b.octets → b.taken ≡ a.taken + n → Advances a b
advances_by a b shared n l e t =
    let count : b.taken - a.taken ≡ length shared = omega (arith, t, l) in
    record {
      forward = omega (arith, t);
      rest = sym (ap (λ (k : ℕ). drop k a.octets) count ∙ ap (λ (s : List ℕ). drop (length shared) s) e ∙ drop-append_seam shared b.octets);
    }

pub advances_both : {a b c : Remaining} → Advances a b → Advances b c → Advances a c
advances_both {a} {b} {c} f g =
    let count : (b.taken - a.taken) + (c.taken - b.taken) ≡ c.taken - a.taken = omega (arith, f.forward, g.forward) in
    record {
      forward = omega (arith, f.forward, g.forward);
      rest = g.rest ∙ ap (λ (s : List ℕ). drop (c.taken - b.taken) s) f.rest ∙ drop-drop (c.taken - b.taken) (b.taken - a.taken) a.octets
          ∙ ap (λ (k : ℕ). drop k a.octets) count;
    }

-- ---- what can be emitted has short strings

short_text : (s : List ℕ) → nat_le (length s) 255 ≡ true → length s < 256
short_text s h = grind (arith, nat_tests, h)

short_texts : (ss : List (List ℕ)) → list_all (λ s. nat_le (length s) 255) ss ≡ true → AllByRecursion (λ s. length s < 256) ss
short_texts [] h = tt
short_texts (s ∷ ss) h = (short_text s (first_so (nat_le (length s) 255) (list_all (λ x. nat_le (length x) 255) ss) h), short_texts ss (second_so (nat_le (length s) 255) (list_all (λ x. nat_le (length x) 255) ss) h))

kind_short : (k : Kind) (v : Value k) → is_emittable k v ≡ true → IsShort k v
kind_short CharacterString v h = short_text v h
kind_short CharacterStrings v h = short_texts v h
kind_short k v h = tt

pub emittable_short : (kinds : List Kind) (vs : Values kinds) → all_emittable kinds vs ≡ true → AllShort kinds vs
emittable_short [] vs h = tt
emittable_short (k ∷ kinds) vs h = (kind_short k vs.0 (first_so (is_emittable k vs.0) (all_emittable kinds vs.1) h), emittable_short kinds vs.1 (second_so (is_emittable k vs.0) (all_emittable kinds vs.1) h))
