use Rattle.std.proofs.Common.{arith, refl}
use Rattle.dns_labels.proofs.ReadingSteps.{onward}
use Rattle.dns_names_wire.proofs.NameSteps.{label_left, one_longer, skipped_none}
use Rattle.dns_names_wire.proofs.StepCounts.{counted_next, counted_stop, counted_short}
use Rattle.dns_names_wire.proofs.name_ends.pass_run.Goals as goal

pub returns-then-offset-message-clause-none : goal.returns-then-offset-message-clause-none
returns-then-offset-message-clause-none c = λ front stop end run room.
    omega (arith, (onward (skipped_none {before = c.args.before} (omega arith) (omega arith)).so run).1.some)

pub returns-then-next-most-clause-none : goal.returns-then-next-most-clause-none
returns-then-next-most-clause-none c = λ front stop end run room.
    let i = c.labels.invariant in
    let l = label_left i.0 i.1 (omega arith) (omega arith) run room in
    omega (arith, l.0, l.1)

pub returns-then-first-lt192-clause-none : goal.returns-then-first-lt192-clause-none
returns-then-first-lt192-clause-none c = λ front stop end run room.
    let i = c.labels.invariant in
    let o = onward i.0.so run in
    omega (arith, o.1.pointer (omega (arith, i.1)), i.1)

pub labels-preserved : goal.labels-preserved
labels-preserved c =
    let i = c.labels.invariant in (
      one_longer i.0 i.1 (omega arith) (omega arith) (omega arith) (omega (arith, i.0.so.at_is)),
      refl,
      omega arith,
      counted_next i.3 i.1 (omega arith) (omega arith) (omega arith) (omega (arith, i.3.few)),
    )

pub overflow_add-labels : goal.overflow_add-labels
overflow_add-labels c = let i = c.labels.invariant in omega (arith, i.3.few, i.0.room)

pub returns-then-next-most-clause-labels : goal.returns-then-next-most-clause-labels
returns-then-next-most-clause-labels c =
    let i = c.labels.invariant in counted_short i.3 i.1 (λ behind room. omega (arith, i.3.few, behind, room))

pub returns-then-next-most-clause-few : goal.returns-then-next-most-clause-few
returns-then-next-most-clause-few c = let i = c.labels.invariant in omega (arith, i.3.few, i.0.room)

pub returns-then-first-eq0-clause-end : goal.returns-then-first-eq0-clause-end
returns-then-first-eq0-clause-end c = let i = c.labels.invariant in (omega arith, omega (arith, i.3.few))

pub returns-then-first-eq0-clause-labels : goal.returns-then-first-eq0-clause-labels
returns-then-first-eq0-clause-labels c =
    let i = c.labels.invariant in counted_stop i.3 (λ some most. omega (arith, i.1, some))

pub returns-then-first-eq0-clause-few : goal.returns-then-first-eq0-clause-few
returns-then-first-eq0-clause-few c = let i = c.labels.invariant in omega (arith, i.3.few, i.0.room)

pub returns-then-first-lt192-clause-labels : goal.returns-then-first-lt192-clause-labels
returns-then-first-lt192-clause-labels c =
    let i = c.labels.invariant in counted_stop i.3 (λ some most. omega (arith, i.1, some, most))

pub returns-then-first-lt192-clause-few : goal.returns-then-first-lt192-clause-few
returns-then-first-lt192-clause-few c = let i = c.labels.invariant in omega (arith, i.3.few, i.0.room)

pub returns-clause-end : goal.returns-clause-end
returns-clause-end c = let i = c.labels.invariant in (omega arith, omega (arith, i.3.few))

pub returns-clause-labels : goal.returns-clause-labels
returns-clause-labels c = let i = c.labels.invariant in counted_stop i.3 (λ some most. omega (arith, i.1, some, most))

pub returns-clause-few : goal.returns-clause-few
returns-clause-few c = let i = c.labels.invariant in omega (arith, i.3.few, i.0.room)
