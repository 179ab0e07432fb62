use Rattle.std.proofs.{lemmas.List.take_rest, lemmas.List.drop_all, Common.arith, Common.length-append}
use Rattle.dns_labels.proofs.LabelSteps.{label_done, label_refused, label_more, label_full, at_dot, goes_on, front_long}
use Rattle.dns_labels.specs.TextFaults.{LabelFault.long_label, LabelFault.long_name, LabelFault.character}
use Rattle.dns_labels.proofs.text.read_octets.Goals.{then-octets-test+else-text-at-ne46, else-octets-test}
use Rattle.dns_labels.proofs.text.read_octets.Goals as goal

pub returns-then-most-lt-MAX_LABEL-clause-none : goal.returns-then-most-lt-MAX_LABEL-clause-none
returns-then-most-lt-MAX_LABEL-clause-none c = λ label t rest lt e end short room.
    let f = label_full c.octets.invariant.0 (omega arith) (omega arith) label t rest lt e end in
    omega (arith, c.octets.invariant.1)

pub returns-then-most-lt-MAX_LABEL-clause-why : goal.returns-then-most-lt-MAX_LABEL-clause-why
returns-then-most-lt-MAX_LABEL-clause-why c = λ size begun.
    let s = c.octets.invariant.0 in
    let i = c.octets.invariant.1 in
    let long = front_long s in
    let g = goes_on s (omega arith) (omega arith) begun (omega (arith, i)) (omega (arith, i)) in
    long_name g (omega (arith, i, long)) (omega (arith, i, long, begun))

pub returns-then-left-eq0-clause-none : goal.returns-then-left-eq0-clause-none
returns-then-left-eq0-clause-none c = λ label t rest lt e end short room.
    let f = label_full c.octets.invariant.0 (omega arith) (omega arith) label t rest lt e end in
    omega (arith, c.octets.invariant.1)

pub returns-then-left-eq0-clause-why : goal.returns-then-left-eq0-clause-why
returns-then-left-eq0-clause-why c = λ size begun.
    let s = c.octets.invariant.0 in
    let i = c.octets.invariant.1 in
    let g = goes_on s (omega arith) (omega arith) begun (omega (arith, i)) (omega (arith, i)) in
    long_label g (omega (arith, i, front_long s))

pub returns-in_default-clause-why : goal.returns-in_default-clause-why
returns-in_default-clause-why c = λ size begun.
    let s = c.octets.invariant.0 in
    let i = c.octets.invariant.1 in
    let long = front_long s in
    let g = goes_on s (omega arith) (omega arith) begun (omega (arith, i)) (omega (arith, i)) in
    character g (omega (arith, i, long)) (omega (arith, i, long, begun)) (rw (take_rest c.args.text.now c.octets.at) at c.in_default.ensures.none)

pub returns-in_default-clause-none : goal.returns-in_default-clause-none
returns-in_default-clause-none c = λ label t rest lt e end short room.
    label_refused c.octets.invariant.0 (omega arith) (omega arith)
    (rw (take_rest c.args.text.now c.octets.at) at c.in_default.ensures.none) label t rest lt e end

pub octets-preserved : goal.octets-preserved
octets-preserved c =
    let e = rw (take_rest c.args.text.now c.octets.at) at c.in-Some.ensures.found in
    let f = rw (take_rest c.args.text.now c.octets.at) at c.in-Some.ensures.length in
    rw c.push.ensures (
      label_more c.octets.invariant.0 (omega arith) (omega arith) _ _ f.1 e,
      simp length-append (omega (arith, c.octets.invariant.1)),
    )

pub returns-clause-some : goal.returns-clause-some
returns-clause-some c = label_done c.octets.invariant.0 (elim c.octets-test.branch [
  | then-octets-test+else-text-at-ne46 w ↦ at_dot c.args.text.now c.octets.at (omega arith) (omega arith)
  | else-octets-test w ↦ rw (drop_all c.octets.at c.args.text.now (omega arith)) tt
])
