-- The first difference of two lists, and what they begin with.
use Rattle.std.proofs.{Common.length, Common.refl, Common.sym, Common.ap, Common.◌∙◌, Common.arith, lemmas.Bool.Decides.nat_tests}
use Rattle.std.proofs.Common.{◌≡◌, ◌≢◌, ℕ, ◌+◌, ◌==◌, true, false, Bool, if◌then◌else◌, Option, Some, None, MatchOption, is_some, subst, List, [], ◌∷◌, ◌++◌}
use Rattle.std.specs.declared.cmp.Ordering.TheVariants.{Less, Equal, Greater}
use Rattle.std.specs.{Ordering.nat_cmp, Ordering.ordering_then, Cmp.tied_itself, Cmp.nat_cmp_total, declared.cmp.Ordering.Ordering, Cmp.Lexicographic.slice_cmp}
use Rattle.dns_canonical.specs.Runs.{Shares, common, next_order}

pub cmp_one : (x : ℕ) (a b : List ℕ) → slice_cmp nat_cmp (x ∷ a) (x ∷ b) ≡ slice_cmp nat_cmp a b
cmp_one x a b = ap (λ (o : Ordering). ordering_then o (slice_cmp nat_cmp a b)) (tied_itself nat_cmp_total x)

pub common_one : (x : ℕ) (a b : List ℕ) → common (x ∷ a) (x ∷ b) ≡ common a b + 1
common_one x a b = let same : (x == x) ≡ true = grind (arith, nat_tests) in rw same refl

cmp_front : (t a b : List ℕ) → slice_cmp nat_cmp (t ++ a) (t ++ b) ≡ slice_cmp nat_cmp a b
cmp_front [] a b = refl
cmp_front (x ∷ t) a b = cmp_one x (t ++ a) (t ++ b) ∙ cmp_front t a b

common_front : (t a b : List ℕ) → common (t ++ a) (t ++ b) ≡ common a b + length t
common_front [] a b = omega arith
common_front (x ∷ t) a b = let e = common_front t a b in let f = common_one x (t ++ a) (t ++ b) in omega (arith, e, f)

pub cmp_shared : {n : ℕ} {a c b d : List ℕ} → Shares n a c b d → slice_cmp nat_cmp a b ≡ slice_cmp nat_cmp c d
cmp_shared {n} {a} {c} {b} {d} s = rw (s.left, s.right) (cmp_front s.shared c d)

pub common_shared : {n : ℕ} {a c b d : List ℕ} → Shares n a c b d → common a b ≡ common c d + n
common_shared {n} {a} {c} {b} {d} s = let e = common_front s.shared c d in rw (s.left, s.right) (omega (arith, e, s.count))

pub both_equal : (o q : Ordering) → ordering_then o q ≡ Equal → (o ≡ Equal) × (q ≡ Equal)
both_equal Equal q e = (refl, e)
both_equal o q e = cc e

pub then_kept : (o q : Ordering) → o ≢ Equal → o ≡ ordering_then o q
then_kept Less q h = refl
then_kept Equal q h = absurd (h refl)
then_kept Greater q h = refl

pub apart : (x y : ℕ) → x ≢ y → nat_cmp x y ≢ Equal
apart x y h = λ e. grind (arith, nat_tests, h, e)

-- ---- by what two cursors answered

-- what the next octet is, of the octets before and behind it
abbrev pub NextGives : Option ℕ → List ℕ → List ℕ → Type 0
NextGives r a c = MatchOption r ((a ≡ []) × (c ≡ [])) (λ x. a ≡ x ∷ c)

as_told : (p o : Ordering) (a b : List ℕ) → Some o ≡ Some p → p ≡ slice_cmp nat_cmp a b → o ≡ slice_cmp nat_cmp a b
as_told p o a b h e = let k : o ≡ p = cc h in k ∙ e

told_by : (t : Bool) (a b c d : List ℕ) (x y : ℕ) (o : Ordering) → (x == y) ≡ t → a ≡ x ∷ c → b ≡ y ∷ d
    → Some o ≡ (if t then None else Some (nat_cmp x y)) → o ≡ slice_cmp nat_cmp a b
told_by true a b c d x y o is e f h = cc h
told_by false a b c d x y o is e f h =
    as_told (nat_cmp x y) o a b h (rw (e, f) (then_kept (nat_cmp x y) (slice_cmp nat_cmp c d) (apart x y (λ same. grind (arith, nat_tests, is, same)))))

-- they tell the order
pub order_told : (r s : Option ℕ) (a b c d : List ℕ) (o : Ordering) → NextGives r a c → NextGives s b d → Some o ≡ next_order r s → o ≡ slice_cmp nat_cmp a b
order_told None None a b c d o e f h = as_told Equal o a b h (rw (e.0, f.0) refl)
order_told None (Some y) a b c d o e f h = as_told Less o a b h (rw (e.0, f) refl)
order_told (Some x) None a b c d o e f h = as_told Greater o a b h (rw (e, f.0) refl)
order_told (Some x) (Some y) a b c d o e f h = told_by (x == y) a b c d x y o refl e f h

-- both lists go on with one octet
pub record GoesOn (r s : Option ℕ) (a b c d : List ℕ) : Type 0 where
  pub order : slice_cmp nat_cmp c d ≡ slice_cmp nat_cmp a b
  pub common : common a b ≡ common c d + 1
  pub first : is_some r ≡ true
  pub second : is_some s ≡ true

same_by : (t : Bool) (a b c d : List ℕ) (x y : ℕ) → (x == y) ≡ t → a ≡ x ∷ c → b ≡ y ∷ d
    → None ≡ (if t then None else Some (nat_cmp x y)) → GoesOn (Some x) (Some y) a b c d
same_by true a b c d x y is e f h =
    let same : x ≡ y = grind (arith, nat_tests, is) in
    record { order = rw (e, f, same) (sym (cmp_one y c d)); common = rw (e, f, same) (common_one y c d); first = refl; second = refl }
same_by false a b c d x y is e f h = cc h

-- they do not tell it
pub goes_on : (r s : Option ℕ) (a b c d : List ℕ) → NextGives r a c → NextGives s b d → None ≡ next_order r s → GoesOn r s a b c d
goes_on None None a b c d e f h = cc h
goes_on None (Some y) a b c d e f h = cc h
goes_on (Some x) None a b c d e f h = cc h
goes_on (Some x) (Some y) a b c d e f h = same_by (x == y) a b c d x y refl e f h

-- where the order of the lists is known to be that of others, the next octets tell this one, or those behind what both share have it
pub told_at : (r s : Option ℕ) (a b c d : List ℕ) {o z : Ordering} → NextGives r a c → NextGives s b d → Some o ≡ next_order r s → slice_cmp nat_cmp a b ≡ z
    → o ≡ z
told_at r s a b c d {o} e f h i = order_told r s a b c d o e f h ∙ i

pub kept_at : (r s : Option ℕ) (n : ℕ) (a b c d : List ℕ) {x y : List ℕ} {z : Ordering} → Shares n c x d y → NextGives r a c → NextGives s b d
    → None ≡ next_order r s
    → slice_cmp nat_cmp a b ≡ z → slice_cmp nat_cmp x y ≡ z
kept_at r s n a b c d g e f h i = sym (cmp_shared g) ∙ (goes_on r s a b c d e f h).order ∙ i

pub one_taken : (r : Option ℕ) (n m : ℕ) → is_some r ≡ true → n ≡ m + (if is_some r then 1 else 0) → n ≡ m + 1
one_taken r n m e h = subst (λ (t : Bool). n ≡ m + (if t then 1 else 0)) e h

pub then_equal : (o : Ordering) → ordering_then o Equal ≡ o
then_equal Less = refl
then_equal x = refl

pub then_assoc : (o p q : Ordering) → ordering_then (ordering_then o p) q ≡ ordering_then o (ordering_then p q)
then_assoc Less p q = refl
then_assoc x p q = refl
