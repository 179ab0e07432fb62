-- Entries that follow each other.
use Rattle.std.proofs.Common.{◌≡◌, ◌∙◌, ℕ, ◌+◌, ◌<◌, List, [], ◌∷◌, ◌++◌, refl, sym, ap, subst, arith}
use Rattle.std.proofs.lemmas.List.{length_push}
use Rattle.dns_message.specs.Entries.{Follow}
use Rattle.dns_message.specs.{Questions.IsQuestion, Records.IsRecord}
use Rattle.dns_message.specs.{Readings.question_of, Readings.IsAsked, Readings.record_of, Readings.IsFound}
use Rattle.dns_names_wire.specs.Steps.{NameSteps}
use Rattle.dns_message.specs.Steps.{SumOf, OfQuestion, OfOwner, Takes}
use Rattle.dns_message.specs.Starts.{AskedWithin, FoundWithin, BreaksAsked, BreaksFound, BreaksAfter}
use Rattle.dns_message.specs.{Stops.IsQuestionStop, Stops.IsOwnerStop, Headers.IsPlace}
use Rattle.dns_message.specs.declared.{reading.Asked.Asked, reading.FixedFields.FixedFields, header.Header.Header}
use Rattle.dns_message.specs.declared.{error.Fault.Fault, error.Section.Section, error.RecordError.RecordError}
use Rattle.dns_message.specs.declared.error.Section.TheVariants as sections

-- one more at the end
pub follow_push : {X : Type 0} (Is : ℕ → X → ℕ → Type 0) (p : ℕ) (xs : List X) (q : ℕ) (x : X) (end : ℕ) → Follow Is p xs q → Is q x end
    → Follow Is p (xs ++ x ∷ []) end
follow_push Is p [] q x end f is = (end, subst (λ (k : ℕ). Is k x end) (sym f) is, refl)
follow_push Is p (y ∷ ys) q x end f is = (f.0, f.1, follow_push Is f.0 ys q x end f.2 is)

-- the sum with one more
sum_push : {X : Type 0} (Claim : X → ℕ → Type 0) (xs : List X) (x : X) (k j : ℕ) → SumOf Claim xs k → Claim x j → SumOf Claim (xs ++ x ∷ []) (k + j)
sum_push Claim [] x k j none c = (j, 0, c, refl, omega (arith, none))
sum_push Claim (y ∷ ys) x k j s c = (s.0, s.1 + j, s.2, sum_push Claim ys x s.1 j s.3 c, omega (arith, s.4))

-- ---- questions

pub asked_none : (m : List ℕ) (left : ℕ) → 0 < left → AskedWithin m 0 left left 12
asked_none m left some = record {
  steps = 0;
  before = record { questions = []; from = record { many = refl; follow = refl }; followed = refl };
  within = some;
  after_is = omega arith;
}

pub asked_more : {m : List ℕ} {n p left middle after : ℕ} (a : Asked) → AskedWithin m n left middle p → IsAsked m p a → Takes (NameSteps m p) middle after
    → AskedWithin m (n + 1) left after a.end
asked_more {m} {n} {p} {left} {middle} {after} a w is t =
    let b = w.before in
    record {
      steps = w.steps + t.0;
      before = record {
        questions = b.questions ++ question_of p is.name a ∷ [];
        from = record {
          many = length_push b.questions (question_of p is.name a) ∙ ap (λ (k : ℕ). k + 1) b.from.many;
          follow = follow_push (IsQuestion m) 12 b.questions p (question_of p is.name a) a.end b.from.follow is.is;
        };
        followed = sum_push (OfQuestion m) b.questions (question_of p is.name a) w.steps t.0 b.followed t.1;
      };
      within = omega (arith, w.within, w.after_is, t.2);
      after_is = omega (arith, w.after_is, t.3);
    }

pub asked_as : {m : List ℕ} {p left after : ℕ} (n k : ℕ) → n ≡ k → AskedWithin m n left after p → AskedWithin m k left after p
asked_as {m} {p} {left} {after} n k e b = subst (λ (i : ℕ). AskedWithin m i left after p) e b

-- the walk ends at a question
pub asked_breaks : {m : List ℕ} {i p left middle : ℕ} (n : ℕ) (fault : Fault) → i < n → AskedWithin m i left middle p → IsQuestionStop m p middle fault
    → BreaksAsked m n left (record { section = sections.Question; index = i; offset = p; fault = fault })
asked_breaks {m} {i} {p} n fault few w stop = record {
  few = few;
  steps = w.steps;
  before = w.before;
  within = w.within;
  why = record { section = refl; index = refl; offset = refl; why = subst (λ (x : ℕ). IsQuestionStop m p x fault) w.after_is stop };
}

-- ---- records

pub found_none : (m : List ℕ) (p left : ℕ) → 0 < left → FoundWithin m p 0 left left p
found_none m p left some = record {
  steps = 0;
  between = record { records = []; from = record { many = refl; follow = refl }; followed = refl };
  within = some;
  after_is = omega arith;
}

pub found_more : {m : List ℕ} {first n p left middle after : ℕ} (f : FixedFields) → FoundWithin m first n left middle p → IsFound m p f
    → Takes (NameSteps m p) middle after → FoundWithin m first (n + 1) left after f.end
found_more {m} {first} {n} {p} {left} {middle} {after} f w is t =
    let b = w.between in
    record {
      steps = w.steps + t.0;
      between = record {
        records = b.records ++ record_of p is.owner f ∷ [];
        from = record {
          many = length_push b.records (record_of p is.owner f) ∙ ap (λ (k : ℕ). k + 1) b.from.many;
          follow = follow_push (IsRecord m) first b.records p (record_of p is.owner f) f.end b.from.follow is.is;
        };
        followed = sum_push (OfOwner m) b.records (record_of p is.owner f) w.steps t.0 b.followed t.1;
      };
      within = omega (arith, w.within, w.after_is, t.2);
      after_is = omega (arith, w.after_is, t.3);
    }

pub found_as : {m : List ℕ} {first p left after : ℕ} (n k : ℕ) → n ≡ k → FoundWithin m first n left after p → FoundWithin m first k left after p
found_as {m} {first} {p} {left} {after} n k e b = subst (λ (i : ℕ). FoundWithin m first i left after p) e b

-- the walk ends at a record
pub found_breaks : {m : List ℕ} {h : Header} {first passed p left middle : ℕ} {s : Section} {i : ℕ} (n : ℕ) (fault : Fault) → passed < n → IsPlace h passed s i
    → FoundWithin m first passed left middle p → IsOwnerStop m p middle fault
    → BreaksFound m h first n left (record { section = s; index = i; offset = p; fault = fault })
found_breaks {m} {h} {first} {passed} {p} n fault few place w stop = record {
  passed = passed;
  few = few;
  place = place;
  steps = w.steps;
  before = w.between;
  within = w.within;
  why = record { section = refl; index = refl; offset = refl; why = subst (λ (x : ℕ). IsOwnerStop m p x fault) w.after_is stop };
}

-- the walk ends after the questions
pub breaks_after : {m : List ℕ} {h : Header} {first n left middle : ℕ} {e : RecordError} → AskedWithin m h.question_count left middle first
    → BreaksFound m h first n middle e → BreaksAfter m h n left e
breaks_after {m} {h} {first} {n} {left} {middle} {e} a b = record {
  first = first;
  steps = a.steps;
  asked = a.before;
  within = a.within;
  breaks = subst (λ (x : ℕ). BreaksFound m h first n x e) a.after_is b;
}
