-- What a walk over records gives, from what each call of `next` gives.
use Rattle.std.proofs.Common.{◌≡◌, ℕ, suc, ◌+◌, ◌-◌, ◌≤◌, ◌<◌, ◌⊎◌, inl, inr, List, [], ◌∷◌, length, None, Err, refl, sym, ap, subst, arith}
use Rattle.std.specs.Iterator.{Drains, Yields}
use Rattle.dns_message.specs.declared.header.Header.{Header}
use Rattle.dns_message.specs.{State.Walking, Items.Item, Steps.SumOf, Steps.OfRecord, Steps.RecordSteps}
use Rattle.dns_message.specs.Walks.{NextRecord, PassesRecord, StopsAtRecord, AreItems, EndsWalk, WalkGives}

-- after the last item there is none
no_more : (j : Walking) (xs : List Item) (e : Walking) → j.until ≤ j.passed → Yields NextRecord j xs e → xs ≡ []
no_more j [] e done y = refl
no_more j (x ∷ xs) e done y = absurd (none y.1.is) where
  none : PassesRecord j x y.0 ⊎ StopsAtRecord j x y.0 → ⊥
  none (inl p) = let left = p.left in omega arith
  none (inr p) = let left = p.left in omega arith

-- the state after a record that ends at an offset and takes so many steps
abbrev beyond : Walking → ℕ → ℕ → Walking
beyond s end k =
    record { message = s.message; header = s.header; offset = end; passed = s.passed + 1; until = s.until; left = s.left - k }

abbrev Ended : Walking → ℕ → ℕ → ℕ → List Item → Type 0
Ended s n end left rest = ((rest ≡ []) × (n ≡ s.until)) ⊎ ((n < s.until) × EndsWalk s.message s.header n end left rest)

ended_as : (s : Walking) (n k end left other : ℕ) (rest : List Item) → n ≡ k → left ≡ other → Ended s n end left rest → Ended s k end other rest
ended_as s n k end left other rest e f w =
    subst (λ (i : ℕ). Ended s i end other rest) e (subst (λ (l : ℕ). Ended s n end l rest) f w)

walk_more : (s : Walking) (x : Item) (j : Walking) (xs : List Item) → PassesRecord s x j → WalkGives j xs → WalkGives s (x ∷ xs)
walk_more s x j xs p w =
    let v : WalkGives (beyond s j.offset p.steps) xs = subst (λ (t : Walking). WalkGives t xs) p.after w in
    let here : SumOf (OfRecord s.message) (p.is.entry ∷ v.records) (p.steps + v.steps) =
    (p.steps, v.steps, subst (λ (q : ℕ). RecordSteps s.message q p.steps) (sym p.is.is.fields.starts) p.followed, v.followed, refl) in
    let less : s.left - p.steps - v.steps ≡ s.left - (p.steps + v.steps) = omega arith in
    let one : s.passed + 1 ≡ suc s.passed = omega arith in
    let all : s.passed + 1 + length v.records ≡ s.passed + length (p.is.entry ∷ v.records) = omega arith in
    let others : AreItems s.message s.header (suc s.passed) v.records v.given =
    subst (λ (i : ℕ). AreItems s.message s.header i v.records v.given) one v.each in
    record {
      records = p.is.entry ∷ v.records;
      end = v.end;
      found = record { many = refl; follow = (j.offset, p.is.is, v.found.follow) };
      steps = p.steps + v.steps;
      followed = here;
      few = omega (arith, p.within, v.few);
      given = x ∷ v.given;
      each = (record { section = p.section; index = p.index; place = p.place; item = p.is.item }, others);
      rest = v.rest;
      split = ap (λ (l : List Item). x ∷ l) v.split;
      ends = ended_as s (s.passed + 1 + length v.records) (s.passed + length (p.is.entry ∷ v.records)) v.end
          (s.left - p.steps - v.steps) (s.left - (p.steps + v.steps)) v.rest all less v.ends;
    }

walk_stops : (s : Walking) (x : Item) (xs : List Item) (t : Walking) → StopsAtRecord s x t → xs ≡ [] → WalkGives s (x ∷ xs)
walk_stops s x xs t p none =
    let given = p.given in
    let last : x ∷ xs ≡ Err p.error ∷ [] = cc in
    let left = p.left in
    let ends : EndsWalk s.message s.header s.passed s.offset s.left (x ∷ xs) =
    record { section = p.section; index = p.index; place = p.place; error = p.error; last = last; why = p.why } in
    record {
      records = [];
      end = s.offset;
      found = record { many = refl; follow = refl };
      steps = 0;
      followed = refl;
      few = omega arith;
      given = [];
      each = tt;
      rest = x ∷ xs;
      split = refl;
      ends = ended_as s s.passed (s.passed + 0) s.offset s.left (s.left - 0) (x ∷ xs) (omega arith) (omega arith) (inr (left, ends));
    }

-- a walk is done where nothing is left
walk_done : (s : Walking) → s.passed ≡ s.until → WalkGives s []
walk_done s done = record {
  records = [];
  end = s.offset;
  found = record { many = refl; follow = refl };
  steps = 0;
  followed = refl;
  few = omega arith;
  given = [];
  each = tt;
  rest = [];
  split = refl;
  ends = inl (refl, omega (arith, done));
}

-- one call, and what the calls after it give
walk_step : (s : Walking) (x : Item) (j : Walking) (xs : List Item) → s.passed ≤ s.until → PassesRecord s x j ⊎ StopsAtRecord s x j
    → (j.passed ≤ j.until → WalkGives j xs) → (j.until ≤ j.passed → xs ≡ []) → WalkGives s (x ∷ xs)
walk_step s x j xs order (inl p) more none =
    let passed : j.passed ≡ s.passed + 1 = ap (λ (t : Walking). t.passed) p.after in
    let until : j.until ≡ s.until = ap (λ (t : Walking). t.until) p.after in
    let left = p.left in
    walk_more s x j xs p (more (omega arith))
walk_step s x j xs order (inr p) more none =
    let passed : j.passed ≡ s.passed = ap (λ (t : Walking). t.passed) p.after in
    let until : j.until ≡ s.passed = ap (λ (t : Walking). t.until) p.after in
    walk_stops s x xs j p (none (omega arith))

walk_gives : (xs : List Item) (s e u : Walking) → s.passed ≤ s.until → Yields NextRecord s xs e → NextRecord e None u → WalkGives s xs
walk_gives [] s e u order y last =
    let end : NextRecord s None u = subst (λ (t : Walking). NextRecord t None u) (sym y) last in
    let low = end.is.0 in
    walk_done s (omega arith)
walk_gives (x ∷ xs) s e u order y last =
    walk_step s x y.0 xs order y.1.is (λ h. walk_gives xs y.0 e u h y.2 last) (λ done. no_more y.0 xs e done y.2)

pub walk_drains : (s : Walking) → s.passed ≤ s.until → (xs : List Item) → Drains NextRecord s xs → WalkGives s xs
walk_drains s order xs d = walk_gives xs s d.1.0 d.0 order d.1.1 d.1.2

-- two states with as many steps left
pub left_as : {m : List ℕ} {h : Header} {p n u l k : ℕ} → l ≡ k
    → (let s : Walking = record { message = m; header = h; offset = p; passed = n; until = u; left = l } in s)
    ≡ record { message = m; header = h; offset = p; passed = n; until = u; left = k }
left_as {m} {h} {p} {n} {u} e =
    ap (λ (l : ℕ). let s : Walking = record { message = m; header = h; offset = p; passed = n; until = u; left = l } in s) e
