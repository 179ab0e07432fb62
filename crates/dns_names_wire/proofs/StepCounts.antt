-- How the steps of a name are counted.
use Rattle.std.proofs.Common.{◌≡◌, ℕ, zero, suc, ◌+◌, ◌-◌, ◌/◌, ◌%◌, ◌≤◌, ◌<◌, List, [], ◌∷◌, ◌++◌, length, take, drop, get_or, Option, Some, None}
use Rattle.std.proofs.Common.{refl, sym, ap, ◌∙◌, arith, subst}
use Rattle.dns_fields.specs.{Labels.wire, Labels.AreLabels, Names.pointer}
use Rattle.dns_fields.proofs.{Unique.zero_stop, Unique.pointer_stop, Unique.apart, Unique.same_target, Runs.same_run}
use Rattle.dns_labels.specs.Reading.{IsRun}
use Rattle.dns_labels.proofs.ReadingSteps.{SoFar, so_far_none, onward}
use Rattle.dns_names_wire.specs.NameEnds.{SkipsRun}
use Rattle.dns_names_wire.specs.Steps.{Jump, PassesLabel, PassesLabels, Follows, NameSteps, OneCount, StepExamples, pointed_names}

-- ---- one run is encoded at an offset

zero_alone : {w : List ℕ} {p e d u : ℕ} {f g : List (List ℕ)} → IsRun w p f None e → IsRun w p g (Some u) d → ⊥
zero_alone {u = u} {f = f} {g = g} a b =
    apart u (same_run f g a.behind (u % 256 ∷ b.behind) 0 (192 + u / 256) a.are b.are zero_stop (pointer_stop u) (sym a.stands ∙ b.stands)).1

both_runs : {w : List ℕ} {p e d t u : ℕ} {f g : List (List ℕ)} → IsRun w p f (Some t) e → IsRun w p g (Some u) d → (f ≡ g) × (t ≡ u)
both_runs {t = t} {u = u} {f = f} {g = g} a b =
    let k = same_run f g (t % 256 ∷ a.behind) (u % 256 ∷ b.behind) (192 + t / 256) (192 + u / 256) a.are b.are (pointer_stop t) (pointer_stop u)
    (sym a.stands ∙ b.stands) in
    (k.0, same_target t u a.behind b.behind k.1)

no_jump : {w : List ℕ} {p e before : ℕ} {f : List (List ℕ)} → IsRun w p f None e → Jump w p before → ⊥
no_jump r j = zero_alone r j.run

no_jump_on : {w : List ℕ} {p e t before : ℕ} {f : List (List ℕ)} → IsRun w p f (Some t) e → p ≤ t → Jump w p before → ⊥
no_jump_on r on j =
    let k = both_runs r j.run in
    let back = j.backwards in
    omega (arith, k.1)

-- ---- one count

same_labels : (k l : ℕ) (m : List ℕ) (p before : ℕ) → PassesLabels k m p before → PassesLabels l m p before → k ≡ l
same_labels zero zero m p before f g = refl
same_labels zero (suc l) m p before f g = absurd (f g.0 g.1)
same_labels (suc k) zero m p before f g = absurd (g f.0 f.1)
same_labels (suc k) (suc l) m p before f g =
    let e : g.0 ≡ f.0 = sym g.1.size ∙ f.1.size in
    let there : PassesLabels l m (p + suc f.0) (before + suc f.0) =
    subst (λ (n : ℕ). PassesLabels l m (p + suc n) (before + suc n)) e g.2 in
    ap (λ (n : ℕ). suc n) (same_labels k l m (p + suc f.0) (before + suc f.0) f.2 there)

same_count : (k l n o : ℕ) (m : List ℕ) (p before : ℕ) → Follows k n m p before → Follows l o m p before → n ≡ o
same_count zero zero n o m p before f g = same_labels n o m p before f.1 g.1
same_count zero (suc l) n o m p before f g = absurd (f.0 g.0)
same_count (suc k) zero n o m p before f g = absurd (g.0 f.0)
same_count (suc k) (suc l) n o m p before f g =
    let e = both_runs f.0.run g.0.run in
    let there : Follows l g.2 (take p m) f.0.target (before + length (wire f.0.front)) =
    subst (λ (t : ℕ). Follows l g.2 (take p m) t (before + length (wire f.0.front))) (sym e.1)
    (subst (λ (x : List (List ℕ)). Follows l g.2 (take p m) g.0.target (before + length (wire x))) (sym e.0) g.4) in
    let labels = same_labels f.1 g.1 m p before f.3 g.3 in
    let rest = same_count k l f.2 g.2 (take p m) f.0.target (before + length (wire f.0.front)) f.4 there in
    omega (arith, f.5, g.5, labels, rest)

pub one_count : OneCount
one_count m p k l f g = same_count f.pointers g.pointers k l m p 0 f.is g.is

-- ---- the labels that were passed so far

-- with those that are passed from there they are those from the start of the labels
pub record Counted (message : List ℕ) (offset at before labels : ℕ) : Type 0 where
  pub so : (k : ℕ) → PassesLabels k message at (before + (at - offset)) → PassesLabels (labels + k) message offset before
  pub few : labels + offset ≤ at

pub counted_none : {message : List ℕ} {offset before : ℕ} → Counted message offset offset before 0
counted_none {message = message} {offset = offset} {before = before} = record {
  so = λ k f.
      let there : before + (offset - offset) ≡ before = omega arith in
      let none : k ≡ 0 + k = omega arith in
      subst (λ (n : ℕ). PassesLabels n message offset before) none (subst (λ (n : ℕ). PassesLabels k message offset n) there f);
  few = omega arith;
}

pub counted_next : {message : List ℕ} {offset at before labels n : ℕ} → Counted message offset at before labels → n ≡ get_or message at 0
    → 1 ≤ n → n ≤ 63 → at + (n + 1) < length message → before + (at + (n + 1) - offset) ≤ 254
    → Counted message offset (at + (n + 1)) before (labels + 1)
counted_next {message = message} {offset = offset} {at = at} {before = before} {labels = labels} {n = n} c n_is low high behind room = record {
  so = λ k f.
      let passes : PassesLabel message at (before + (at - offset)) n =
      record { size = sym n_is; some = low; most = high; followed = omega arith; room = omega (arith, c.few) } in
      let place : at + (n + 1) ≡ at + suc n = omega arith in
      let longer : before + (at + (n + 1) - offset) ≡ before + (at - offset) + suc n = omega (arith, c.few) in
      let there : PassesLabels k message (at + suc n) (before + (at - offset) + suc n) =
      subst (λ (x : ℕ). PassesLabels k message x (before + (at - offset) + suc n)) place
      (subst (λ (x : ℕ). PassesLabels k message (at + (n + 1)) x) longer f) in
      let sum : labels + suc k ≡ labels + 1 + k = omega arith in
      subst (λ (x : ℕ). PassesLabels x message offset before) sum (c.so (suc k) (n, passes, there));
  few = omega (arith, c.few);
}

pub counted_all : {message : List ℕ} {offset at before labels : ℕ} → Counted message offset at before labels
    → ((n : ℕ) → PassesLabel message at (before + (at - offset)) n → ⊥) → PassesLabels labels message offset before
counted_all {message = message} {offset = offset} {before = before} {labels = labels} c none =
    let sum : labels + zero ≡ labels = omega arith in
    subst (λ (x : ℕ). PassesLabels x message offset before) sum (c.so zero none)

-- the octet there is no length of a label
pub counted_stop : {message : List ℕ} {offset at before labels : ℕ} → Counted message offset at before labels
    → (1 ≤ get_or message at 0 → get_or message at 0 ≤ 63 → ⊥) → PassesLabels labels message offset before
counted_stop c none = counted_all c (λ n p. none (omega (arith, p.size, p.some)) (omega (arith, p.size, p.most)))

-- the label there is too long, or no octet follows it
pub counted_short : {message : List ℕ} {offset at before labels n : ℕ} → Counted message offset at before labels → n ≡ get_or message at 0
    → (at + (n + 1) < length message → before + (at + (n + 1) - offset) ≤ 254 → ⊥) → PassesLabels labels message offset before
counted_short c n_is none =
    counted_all c (λ n p. none (omega (arith, p.size, n_is, p.followed)) (omega (arith, p.size, n_is, p.room, c.few)))

pub counted_outside : {message : List ℕ} {offset before : ℕ} → offset ≡ length message → PassesLabels 0 message offset before
counted_outside {message = message} {offset = offset} {before = before} end =
    λ n (p : PassesLabel message offset before n). omega (arith, p.followed, end)

-- ---- the steps that were taken so far

-- the run that the last pointer led to, with its labels; and with the steps that are taken from its start they are those
-- of the name
pub record Chased (message : List ℕ) (start : ℕ) (region : List ℕ) (offset : ℕ) (next : Option ℕ) (octets count : ℕ) : Type 0 where
  pub before : ℕ
  pub front : List (List ℕ)
  pub end : ℕ
  pub run : IsRun region offset front next end
  pub counted : octets ≡ before + length (wire front)
  pub room : octets ≤ 254
  pub labels : ℕ
  pub passes : PassesLabels labels region offset before
  pub earlier : ℕ
  pub sum : count ≡ earlier + labels
  pub so : (k n : ℕ) → Follows k n region offset before → (l : ℕ) × Follows l (earlier + n) message start 0
  pub few : count + offset ≤ start + octets

as_many : (m : List ℕ) (p k a b : ℕ) → a ≡ b → Follows k a m p 0 → Follows k b m p 0
as_many m p k a b e f = subst (λ (n : ℕ). Follows k n m p 0) e f

taken : (m : List ℕ) (p k a b : ℕ) → a ≡ b → Follows k a m p 0 → NameSteps m p b
taken m p k a b e f = record { pointers = k; is = as_many m p k a b e f }

pub chased_first : {message : List ℕ} {start end labels : ℕ} {stop : Option ℕ} {len : ℕ} → SkipsRun message start stop end 0 len
    → PassesLabels labels message start 0 → 0 + labels ≤ len → Chased message start message start stop len labels
chased_first {message = message} {start = start} {end = end} {labels = labels} r passes few = record {
  before = 0;
  front = r.front;
  end = end;
  run = r.run;
  counted = r.counted;
  room = r.room;
  labels = labels;
  passes = passes;
  earlier = 0;
  sum = omega arith;
  so = λ k n f. (k, as_many message start k n (0 + n) (omega arith) f);
  few = omega arith;
}

module _ {message : List ℕ} {start : ℕ} {region : List ℕ} {offset target len count : ℕ} (c : Chased message start region offset (Some target) len count) where
  -- the pointer that ends the run is followed, and so many steps are taken after it
  on : target < offset → (k n : ℕ) → Follows k n (take offset region) target len → (l : ℕ) × Follows l (count + suc n) message start 0
  on back k n f =
      let j : Jump region offset c.before =
      record { front = c.front; target = target; end = c.end; run = c.run; room = omega (arith, c.counted, c.room); backwards = back } in
      let there = subst (λ (x : ℕ). Follows k n (take offset region) target x) c.counted f in
      let t = c.so (suc k) (c.labels + suc n) (j, c.labels, n, c.passes, there, refl) in
      (t.0, as_many message start t.0 (c.earlier + (c.labels + suc n)) (count + suc n) (omega (arith, c.sum)) t.1)

  pub chased_next : {stop : Option ℕ} {end after : ℕ} (labels : ℕ) → target < offset → SkipsRun (take offset region) target stop end len after
      → PassesLabels labels (take offset region) target len → len + labels ≤ after
      → Chased message start (take offset region) target stop after (count + (1 + labels))
  chased_next {end = end} labels back r passes more = record {
    before = len;
    front = r.front;
    end = end;
    run = r.run;
    counted = r.counted;
    room = r.room;
    labels = labels;
    passes = passes;
    earlier = count + 1;
    sum = omega arith;
    so = λ k n f. let t = on back k n f in (t.0, as_many message start t.0 (count + suc n) (count + 1 + n) (omega arith) t.1);
    few = omega (arith, c.few, more);
  }

  -- it is not followed
  pub chased_forward : offset ≤ target → NameSteps message start count
  chased_forward h =
      let t = c.so zero c.labels ((λ j. no_jump_on c.run h j), c.passes) in
      taken message start t.0 (c.earlier + c.labels) count (omega (arith, c.sum)) t.1

  -- it is the last one
  pub chased_lost : (labels : ℕ) → target < offset → ((front : List (List ℕ)) (stop : Option ℕ) (e : ℕ) → IsRun (take offset region) target front stop e
      → len + length (wire front) ≤ 254 → ⊥) → PassesLabels labels (take offset region) target len
      → NameSteps message start (count + (1 + labels))
  chased_lost labels back none passes =
      let t = on back zero labels ((λ j. none j.front (Some j.target) j.end j.run j.room), passes) in
      taken message start t.0 (count + suc labels) (count + (1 + labels)) (omega arith) t.1

pub chased_end : {message : List ℕ} {start : ℕ} {region : List ℕ} {offset len count : ℕ} → Chased message start region offset None len count
    → NameSteps message start count
chased_end {message = message} {start = start} {count = count} c =
    let t = c.so zero c.labels ((λ j. no_jump c.run j), c.passes) in
    taken message start t.0 (c.earlier + c.labels) count (omega (arith, c.sum)) t.1

-- ---- the examples

pointer_run : (w : List ℕ) (p t : ℕ) (front : List (List ℕ)) (behind : List ℕ) → AreLabels front → drop p w ≡ wire front ++ (pointer t ++ behind)
    → t < 16384 → IsRun w p front (Some t) (p + length (wire front) + 2)
pointer_run w p t front behind are stands small = record { are = are; behind = behind; stands = stands; target = small; ends = omega arith }

whole_run : (w : List ℕ) (p : ℕ) (front : List (List ℕ)) (behind : List ℕ) → AreLabels front → drop p w ≡ wire front ++ (0 ∷ behind)
    → IsRun w p front None (p + length (wire front) + 1)
whole_run w p front behind are stands = record { are = are; behind = behind; stands = stands; target = tt; ends = omega arith }

abbrev label : ℕ → List (List ℕ)
label c = (c ∷ []) ∷ []

is_label : (c : ℕ) → AreLabels (label c)
is_label c = ((omega arith, omega arith), tt)

-- `a.` at the front
no_pointer : (behind : List ℕ) (before : ℕ) → Jump (0x01 ∷ 0x61 ∷ 0x00 ∷ behind) 0 before → ⊥
no_pointer behind before j = no_jump (whole_run (0x01 ∷ 0x61 ∷ 0x00 ∷ behind) 0 (label 0x61) behind (is_label 0x61) refl) j

-- an octet that begins no label
no_length : (w : List ℕ) (p before : ℕ) → p ≤ length w → 64 ≤ get_or w p 0 → get_or w p 0 < 192 → Jump w p before → ⊥
no_length w p before within high low j =
    let start : SoFar w p p [] [] = so_far_none within (omega arith) in
    let o = onward start j.run in
    let big = (o.1.pointer high).0 in
    omega (arith, big, low)

-- no label is passed where the octet is no length of one
no_labels : (w : List ℕ) (p before : ℕ) → (1 ≤ get_or w p 0 → get_or w p 0 ≤ 63 → ⊥) → PassesLabels 0 w p before
no_labels w p before none = λ n (l : PassesLabel w p before n). none (omega (arith, l.size, l.some)) (omega (arith, l.size, l.most))

-- one label of one octet is passed, and then there is an octet that is no length of one
one_label : (w : List ℕ) (p before : ℕ) → get_or w p 0 ≡ 1 → p + 2 < length w → before + 2 ≤ 254
    → (1 ≤ get_or w (p + 2) 0 → get_or w (p + 2) 0 ≤ 63 → ⊥) → PassesLabels 1 w p before
one_label w p before size behind room none = (
  1,
  record { size = size; some = omega arith; most = omega arith; followed = omega (arith, behind); room = omega (arith, room) },
  no_labels w (p + 2) (before + 2) none,
)

-- `a.` at the front, which the name has after so many octets
last_label : (behind : List ℕ) (before : ℕ) → before + 2 ≤ 254 → Follows 0 1 (0x01 ∷ 0x61 ∷ 0x00 ∷ behind) 0 before
last_label behind before room =
    (no_pointer behind before, one_label (0x01 ∷ 0x61 ∷ 0x00 ∷ behind) 0 before refl (omega arith) room (λ some most. omega (arith, some)))

pub step_examples : StepExamples
step_examples = record {
  none = record { pointers = 0; is = last_label (drop 3 pointed_names) 0 (omega arith) };
  one = record {
    pointers = 1;
    is = (
      record {
        front = [];
        target = 0;
        end = 5;
        run = pointer_run pointed_names 3 0 [] (drop 5 pointed_names) tt refl (omega arith);
        room = omega arith;
        backwards = omega arith;
      },
      0,
      1,
      no_labels pointed_names 3 0 (λ some most. omega (arith, most)),
      last_label [] 0 (omega arith),
      refl,
    );
  };
  two = record {
    pointers = 2;
    is = (
      record {
        front = label 0x62;
        target = 3;
        end = 9;
        run = pointer_run pointed_names 5 3 (label 0x62) (drop 9 pointed_names) (is_label 0x62) refl (omega arith);
        room = omega arith;
        backwards = omega arith;
      },
      1,
      2,
      one_label pointed_names 5 0 refl (omega arith) (omega arith) (λ some most. omega (arith, most)),
      (
        record {
          front = [];
          target = 0;
          end = 5;
          run = pointer_run (take 5 pointed_names) 3 0 [] [] tt refl (omega arith);
          room = omega arith;
          backwards = omega arith;
        },
        0,
        1,
        no_labels (take 5 pointed_names) 3 2 (λ some most. omega (arith, most)),
        last_label [] 2 (omega arith),
        refl,
      ),
      refl,
    );
  };
  to_damage = record {
    pointers = 1;
    is = (
      record {
        front = [];
        target = 9;
        end = 12;
        run = pointer_run pointed_names 10 9 [] (drop 12 pointed_names) tt refl (omega arith);
        room = omega arith;
        backwards = omega arith;
      },
      0,
      0,
      no_labels pointed_names 10 0 (λ some most. omega (arith, most)),
      (
        no_length (take 10 pointed_names) 9 0 (omega arith) (omega arith) (omega arith),
        no_labels (take 10 pointed_names) 9 0 (λ some most. omega (arith, most)),
      ),
      refl,
    );
  };
  to_itself = record {
    pointers = 0;
    is = (
      no_jump_on (pointer_run pointed_names 12 12 [] [] tt refl (omega arith)) (omega arith),
      no_labels pointed_names 12 0 (λ some most. omega (arith, most)),
    );
  };
}
