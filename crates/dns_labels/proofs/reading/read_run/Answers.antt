use Rattle.std.proofs.Common.{length-append, length-take, length-drop, arith, ℕ, ap, take, drop}
use Rattle.dns_labels.proofs.ReadingSteps.{onward, one_more}
use Rattle.dns_labels.proofs.reading.read_run.Goals.{then-count-ge64-via-then-count-ge64, then-count-ge64-via-else-count-ge64+then-message-at}
use Rattle.dns_labels.proofs.reading.read_run.Goals.{then-count-ge64-via-else-count-ge64+else-message-at+then-len-count-ge-MAX_OCTETS}
use Rattle.dns_labels.proofs.reading.read_run.Goals as goal

pub returns-then-at-message-clause-none : goal.returns-then-at-message-clause-none
returns-then-at-message-clause-none c = λ front stop end run room. let o = onward c.labels.invariant.0 run in omega (arith, o.1.some)

pub returns-then-message-at-lt2-clause-none : goal.returns-then-message-at-lt2-clause-none
returns-then-message-at-lt2-clause-none c = λ front stop end run room.
    let o = onward c.labels.invariant.0 run in
    omega (arith, (o.1.pointer (omega arith)).1)

pub returns-then-count-ge64-clause-none : goal.returns-then-count-ge64-clause-none
returns-then-count-ge64-clause-none c = λ front stop end run room.
    let o = onward c.labels.invariant.0 run in
    elim c.then-count-ge64.branch [
      | then-count-ge64-via-then-count-ge64 w ↦ omega (arith, (o.1.pointer (omega arith)).0)
      | then-count-ge64-via-else-count-ge64+then-message-at w ↦ omega (arith, (o.1.label (omega arith) (omega arith)).0)
      | then-count-ge64-via-else-count-ge64+else-message-at+then-len-count-ge-MAX_OCTETS w ↦ omega (arith, (o.1.label (omega arith) (omega arith)).1, o.2)
    ]

pub labels-preserved : goal.labels-preserved
labels-preserved c =
    rw c.extend.ensures (
      one_more c.labels.invariant.0 (omega arith) (omega arith) (omega arith) (omega arith)
          (ap (λ (k : ℕ). take k (drop c.labels.at c.args.message.now)) (omega arith)),
      simp (length-append, length-take, length-drop) (omega arith),
    )
