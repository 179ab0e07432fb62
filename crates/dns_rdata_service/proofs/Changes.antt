-- Parameters that are put into a list.
use Rattle.std.proofs.Common.{◌≡◌, ◌≢◌, ℕ, zero, suc, ◌+◌, ◌<◌, ◌≤◌, ◌==◌, ◌++◌, List, [], ◌∷◌, Some, map, true, false, refl, ap, ◌∙◌, sym, subst, length, get_or, take, drop, drop-cons}
use Rattle.std.proofs.Common.{if◌then◌else◌, nat_lt, arith, rules, add-one}
use Rattle.std.proofs.lemmas.{List.drop_all, Bool.ltb-true, Bool.ltb-false, Bool.eqb-true, Bool.eqb-false}
use Rattle.dns_fields.specs.Tlvs.{Rising, Below}
use Rattle.dns_rdata_service.specs.{Parameters.Parameter, Parameters.parameter_of, SVCB.number_of_parameter, SVCB.value_at, Changing.inserted, Changing.RisesIn}

-- ---- where a parameter goes

-- after parameters of lesser numbers
past_lesser : (p : Parameter) (xs : List Parameter) (at : ℕ) → at ≤ length xs
    → ((k : ℕ) (d : Parameter) → k < at → number_of_parameter (get_or xs k d) < number_of_parameter p) → inserted p xs ≡ take at xs ++ inserted p (drop at xs)
past_lesser p xs zero l h = refl
past_lesser p [] (suc at) l h = absurd (omega arith)
past_lesser p (x ∷ xs) (suc at) l h =
    let less : number_of_parameter x < number_of_parameter p = h 0 p (omega arith) in
    let rest = past_lesser p xs at (omega (arith, l)) (λ k d m. h (suc k) d (omega (arith, m))) in
    grind (arith, less, rest)

-- all are lesser: it goes to the end
pub inserted_last : (p : Parameter) (xs : List Parameter) (at : ℕ) → at ≡ length xs
    → ((k : ℕ) (d : Parameter) → k < at → number_of_parameter (get_or xs k d) < number_of_parameter p) → inserted p xs ≡ take at xs ++ p ∷ drop at xs
inserted_last p xs at e h =
    let f = past_lesser p xs at (omega arith) h in
    rw (drop_all at xs (omega (arith, e))) (f ∙ rw (drop_all at xs (omega (arith, e))) refl)

-- the next has a greater number
pub inserted_before : (p x : Parameter) (xs : List Parameter) (at : ℕ) → at < length xs → x ≡ get_or xs at x → number_of_parameter p < number_of_parameter x
    → ((k : ℕ) (d : Parameter) → k < at → number_of_parameter (get_or xs k d) < number_of_parameter p) → inserted p xs ≡ take at xs ++ p ∷ drop at xs
inserted_before p x xs at l is less h =
    let f = past_lesser p xs at (omega arith) h in
    let d : drop at xs ≡ x ∷ drop (suc at) xs = drop-cons xs at x l ∙ ap (λ (y : Parameter). y ∷ drop (suc at) xs) (sym is) in
    let g : inserted p (drop at xs) ≡ p ∷ drop at xs = rw d (grind (arith, less)) in
    f ∙ ap (λ (l : List Parameter). take at xs ++ l) g

-- the next has the same number
pub inserted_there : (p x : Parameter) (xs : List Parameter) (at : ℕ) → at < length xs → x ≡ get_or xs at x → number_of_parameter p ≡ number_of_parameter x
    → ((k : ℕ) (d : Parameter) → k < at → number_of_parameter (get_or xs k d) < number_of_parameter p) → inserted p xs ≡ take at xs ++ p ∷ drop (at + 1) xs
inserted_there p x xs at l is same h =
    let f = past_lesser p xs at (omega arith) h in
    let d : drop at xs ≡ x ∷ drop (suc at) xs = drop-cons xs at x l ∙ ap (λ (y : Parameter). y ∷ drop (suc at) xs) (sym is) in
    let g : inserted p (drop at xs) ≡ p ∷ drop (at + 1) xs = rw (d, add-one) (grind (arith, same)) in
    f ∙ ap (λ (l : List Parameter). take at xs ++ l) g

-- ---- what the list has then

-- the value
pub inserted_finds : (p : Parameter) (ps : List Parameter) → value_at (number_of_parameter p) (inserted p ps) ≡ Some p.1
inserted_finds p [] = grind arith
inserted_finds p (q ∷ qs) = grind (arith, inserted_finds p qs)

-- and for every other key the value that was there
pub inserted_others : (p : Parameter) (ps : List Parameter) (n : ℕ) → n ≢ number_of_parameter p → value_at n (inserted p ps) ≡ value_at n ps
inserted_others p [] n d = grind arith
inserted_others p (q ∷ qs) n d = grind (arith, inserted_others p qs n d)

-- a number below those of all keys that are there and of the parameter
below_inserted : (n : ℕ) (p : Parameter) (ps : List Parameter) → n < number_of_parameter p → Below n (map parameter_of ps)
    → Below n (map parameter_of (inserted p ps))
below_inserted n p [] h b = (h, tt)
below_inserted n p (q ∷ qs) h b = elim (nat_lt (number_of_parameter p) (number_of_parameter q)) as
    (λ t. Below n (map parameter_of (if t then p ∷ (q ∷ qs) else (if number_of_parameter p == number_of_parameter q then p ∷ qs else q ∷ inserted p qs)))) [
      | true ↦ (h, b)
      | false ↦ elim (number_of_parameter p == number_of_parameter q) as
          (λ t. Below n (map parameter_of (if t then p ∷ qs else q ∷ inserted p qs))) [
            | true ↦ (h, b.1)
            | false ↦ (b.0, below_inserted n p qs h b.1)
          ]
    ]

-- a lesser number is below those, too
below_less : (m n : ℕ) (ps : List Parameter) → m < n → Below n (map parameter_of ps) → Below m (map parameter_of ps)
below_less m n [] l b = tt
below_less m n (p ∷ ps) l b = (omega (arith, l, b.0), below_less m n ps l b.1)

-- keys that rose still rise
pub inserted_rises : (p : Parameter) (ps : List Parameter) → RisesIn ps → RisesIn (inserted p ps)
inserted_rises p [] r = (tt, tt)
inserted_rises p (q ∷ qs) r =
    let m = number_of_parameter p in
    let n = number_of_parameter q in
    elim (nat_lt m n) as (λ t. nat_lt m n ≡ t → RisesIn (if t then p ∷ (q ∷ qs) else (if m == n then p ∷ qs else q ∷ inserted p qs))) [
      | true ↦ λ e. ((ltb-true m n e, below_less m n qs (ltb-true m n e) r.0), r)
      | false ↦ λ e. elim (m == n) as (λ t. (m == n) ≡ t → RisesIn (if t then p ∷ qs else q ∷ inserted p qs)) [
        | true ↦ λ f. (subst (λ (k : ℕ). Below k (map parameter_of qs)) (sym (eqb-true m n f)) r.0, r.1)
        | false ↦ λ f. (below_inserted n p qs (apart m n (ltb-false m n e) (eqb-false m n f)) r.0, inserted_rises p qs r.1)
      ] refl
    ] refl
  where
    apart : (a b : ℕ) → b ≤ a → (a ≡ b → ⊥) → b < a
    apart a b l d = omega (arith, l, d)
