-- What a walk over questions gives, from what each call of `next` gives.
use Rattle.std.proofs.Common.{◌≡◌, ℕ, suc, ◌+◌, ◌-◌, ◌≤◌, ◌<◌, ◌⊎◌, inl, inr, List, [], ◌∷◌, length, None, Ok, Err, refl, sym, ap, subst, arith}
use Rattle.std.specs.Iterator.{Drains, Yields}
use Rattle.dns_names_wire.specs.Steps.{NameSteps}
use Rattle.dns_message.specs.{State.Asking, Steps.SumOf, Steps.OfQuestion}
use Rattle.dns_message.specs.Asks.{AskedItem, NextQuestion, PassesQuestion, StopsAtQuestion, ShowsAll, EndsAsking, AsksGive}

-- after the last item there is none
no_more : (j : Asking) (xs : List AskedItem) (e : Asking) → j.until ≤ j.passed → Yields NextQuestion j xs e → xs ≡ []
no_more j [] e done y = refl
no_more j (x ∷ xs) e done y = absurd (none y.1.is) where
  none : PassesQuestion j x y.0 ⊎ StopsAtQuestion j x y.0 → ⊥
  none (inl p) = let left = p.left in omega arith
  none (inr p) = let left = p.left in omega arith

-- the state after a question that ends at an offset and takes so many steps
abbrev beyond : Asking → ℕ → ℕ → Asking
beyond s end k = record { message = s.message; offset = end; passed = s.passed + 1; until = s.until; left = s.left - k }

abbrev Ended : Asking → ℕ → ℕ → ℕ → List AskedItem → Type 0
Ended s n end left rest = ((rest ≡ []) × (n ≡ s.until)) ⊎ ((n < s.until) × EndsAsking s.message n end left rest)

ended_as : (s : Asking) (n k end left other : ℕ) (rest : List AskedItem) → n ≡ k → left ≡ other → Ended s n end left rest → Ended s k end other rest
ended_as s n k end left other rest e f w =
    subst (λ (i : ℕ). Ended s i end other rest) e (subst (λ (l : ℕ). Ended s n end l rest) f w)

asks_more : (s : Asking) (x : AskedItem) (j : Asking) (xs : List AskedItem) → PassesQuestion s x j → AsksGive j xs → AsksGive s (x ∷ xs)
asks_more s x j xs p w =
    let v : AsksGive (beyond s j.offset p.steps) xs = subst (λ (t : Asking). AsksGive t xs) p.after w in
    let here : SumOf (OfQuestion s.message) (p.is.question ∷ v.questions) (p.steps + v.steps) =
    (p.steps, v.steps, subst (λ (q : ℕ). NameSteps s.message q p.steps) (sym p.is.is.starts) p.followed, v.followed, refl) in
    let less : s.left - p.steps - v.steps ≡ s.left - (p.steps + v.steps) = omega arith in
    let one : s.passed + 1 ≡ suc s.passed = omega arith in
    let all : s.passed + 1 + length v.questions ≡ s.passed + length (p.is.question ∷ v.questions) = omega arith in
    let others : ShowsAll s.message (suc s.passed) v.questions v.shown = subst (λ (i : ℕ). ShowsAll s.message i v.questions v.shown) one v.shows in
    let given = p.given in
    let split = v.split in
    record {
      questions = p.is.question ∷ v.questions;
      end = v.end;
      found = record { many = refl; follow = (j.offset, p.is.is, v.found.follow) };
      steps = p.steps + v.steps;
      followed = here;
      few = omega (arith, p.within, v.few);
      shown = Ok p.question ∷ v.shown;
      shows = (p.is.shows, others);
      rest = v.rest;
      split = cc;
      ends = ended_as s (s.passed + 1 + length v.questions) (s.passed + length (p.is.question ∷ v.questions)) v.end
          (s.left - p.steps - v.steps) (s.left - (p.steps + v.steps)) v.rest all less v.ends;
    }

asks_stop : (s : Asking) (x : AskedItem) (xs : List AskedItem) (t : Asking) → StopsAtQuestion s x t → xs ≡ [] → AsksGive s (x ∷ xs)
asks_stop s x xs t p none =
    let given = p.given in
    let last : x ∷ xs ≡ Err p.error ∷ [] = cc in
    let left = p.left in
    let ends : EndsAsking s.message s.passed s.offset s.left (x ∷ xs) = record { error = p.error; last = last; why = p.why } in
    record {
      questions = [];
      end = s.offset;
      found = record { many = refl; follow = refl };
      steps = 0;
      followed = refl;
      few = omega arith;
      shown = [];
      shows = tt;
      rest = x ∷ xs;
      split = refl;
      ends = ended_as s s.passed (s.passed + 0) s.offset s.left (s.left - 0) (x ∷ xs) (omega arith) (omega arith) (inr (left, ends));
    }

-- a walk is done where nothing is left
asks_done : (s : Asking) → s.passed ≡ s.until → AsksGive s []
asks_done s done = record {
  questions = [];
  end = s.offset;
  found = record { many = refl; follow = refl };
  steps = 0;
  followed = refl;
  few = omega arith;
  shown = [];
  shows = tt;
  rest = [];
  split = refl;
  ends = inl (refl, omega (arith, done));
}

-- one call, and what the calls after it give
asks_step : (s : Asking) (x : AskedItem) (j : Asking) (xs : List AskedItem) → s.passed ≤ s.until → PassesQuestion s x j ⊎ StopsAtQuestion s x j
    → (j.passed ≤ j.until → AsksGive j xs) → (j.until ≤ j.passed → xs ≡ []) → AsksGive s (x ∷ xs)
asks_step s x j xs order (inl p) more none =
    let passed : j.passed ≡ s.passed + 1 = ap (λ (t : Asking). t.passed) p.after in
    let until : j.until ≡ s.until = ap (λ (t : Asking). t.until) p.after in
    let left = p.left in
    asks_more s x j xs p (more (omega arith))
asks_step s x j xs order (inr p) more none =
    let passed : j.passed ≡ s.passed = ap (λ (t : Asking). t.passed) p.after in
    let until : j.until ≡ s.passed = ap (λ (t : Asking). t.until) p.after in
    asks_stop s x xs j p (none (omega arith))

asks_give : (xs : List AskedItem) (s e u : Asking) → s.passed ≤ s.until → Yields NextQuestion s xs e → NextQuestion e None u → AsksGive s xs
asks_give [] s e u order y last =
    let end : NextQuestion s None u = subst (λ (t : Asking). NextQuestion t None u) (sym y) last in
    let low = end.is.0 in
    asks_done s (omega arith)
asks_give (x ∷ xs) s e u order y last =
    asks_step s x y.0 xs order y.1.is (λ h. asks_give xs y.0 e u h y.2 last) (λ done. no_more y.0 xs e done y.2)

pub asks_drain : (s : Asking) → s.passed ≤ s.until → (xs : List AskedItem) → Drains NextQuestion s xs → AsksGive s xs
asks_drain s order xs d = asks_give xs s d.1.0 d.0 order d.1.1 d.1.2

-- two states with as many steps left
pub left_as : {m : List ℕ} {p n u l k : ℕ} → l ≡ k
    → (let s : Asking = record { message = m; offset = p; passed = n; until = u; left = l } in s)
    ≡ record { message = m; offset = p; passed = n; until = u; left = k }
left_as {m} {p} {n} {u} e = ap (λ (l : ℕ). let s : Asking = record { message = m; offset = p; passed = n; until = u; left = l } in s) e
