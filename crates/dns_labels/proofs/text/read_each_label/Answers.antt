use Rattle.std.proofs.{Common.arith, Common.length, Common.length-drop, Common.◌+◌, Common.◌<◌, lemmas.List.take_rest}
use Rattle.dns_labels.proofs.text.read_each_label.Goals.{else-text-eq1-via-then-text-eq1+else-text-eq46, else-text-eq1-via-else-text-eq1}
use Rattle.dns_labels.proofs.NameSteps.{name_ends, name_dotted, name_more, name_refused}
use Rattle.dns_labels.specs.TextFaults.{ReadsUpTo.dotted}
use Rattle.dns_labels.proofs.text.read_each_label.Goals as goal

pub returns-in-Err-clause-none : goal.returns-in-Err-clause-none
returns-in-Err-clause-none c = λ name n.
    name_refused c.labels.invariant.0 (omega arith) (λ one dot. elim c.else-text-eq1.branch [
      | else-text-eq1-via-then-text-eq1+else-text-eq46 w ↦ omega arith
      | else-text-eq1-via-else-text-eq1 w ↦ omega arith
    ]) (rw (take_rest c.args.text.now c.labels.at) at c.in-Err.ensures.none) name n

pub returns-in-Err-clause-why : goal.returns-in-Err-clause-why
returns-in-Err-clause-why c = record {
  at = c.labels.at;
  octets = c.labels.octets;
  before = c.labels.invariant.2;
  within = c.labels.invariant.1;
  fault = rw (take_rest c.args.text.now c.labels.at) at c.in-Err.ensures.why;
}

pub returns-then-at-text-clause-some : goal.returns-then-at-text-clause-some
returns-then-at-text-clause-some c =
    let a = rw (take_rest c.args.text.now c.labels.at) at c.in-Ok.ensures.some in
    name_ends c.labels.invariant.0 a c.in-Ok.ensures.room (omega arith)

pub returns-then-at-text-2-clause-some : goal.returns-then-at-text-2-clause-some
returns-then-at-text-2-clause-some c =
    let a = rw (take_rest c.args.text.now c.labels.at) at c.in-Ok.ensures.some in
    name_dotted c.labels.invariant.0 a c.in-Ok.ensures.room (omega (arith, a.within, length-drop c.labels.at c.args.text.now)) (omega arith)

pub labels-preserved : goal.labels-preserved
labels-preserved c =
    let a = rw (take_rest c.args.text.now c.labels.at) at c.in-Ok.ensures.some in
    let more : c.labels.at + c.in-Ok.taken + 1 < length c.args.text.now = omega (arith, a.within, length-drop c.labels.at c.args.text.now) in (
      name_more c.labels.invariant.0 a c.in-Ok.ensures.room more,
      more,
      dotted c.labels.invariant.2 a (omega arith),
    )
