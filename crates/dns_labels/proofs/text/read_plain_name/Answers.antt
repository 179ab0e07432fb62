use Rattle.std.proofs.{Common.◌≤◌, Common.◌+◌, Common.◌<◌, Common.length, Common.ap, Common.refl, Common.arith, Common.length-drop, lemmas.List.length-set, lemmas.List.take_rest}
use Rattle.dns_labels.proofs.PlainNames.{plain_ends, plain_dotted, plain_more}
use Rattle.dns_labels.proofs.text.read_plain_name.Goals as goal

pub returns-then-at-text : goal.returns-then-at-text
returns-then-at-text c =
    let r = take_rest c.args.text.now c.labels.at in
    plain_ends c.labels.invariant.0 (rw r at c.in_ok-label.ensures.front) (rw r at c.in_ok-label.ensures.label) refl (omega arith) (omega arith)
    c.set.ensures (omega arith) (omega arith)

pub returns-then-at-text-2 : goal.returns-then-at-text-2
returns-then-at-text-2 c =
    let r = take_rest c.args.text.now c.labels.at in
    plain_dotted c.labels.invariant.0 (rw r at c.in_ok-label.ensures.front) (rw r at c.in_ok-label.ensures.label) refl (omega arith) (omega arith)
    c.set.ensures (omega arith) c.pop.new.self (omega arith) (omega arith) c.pop.ensures

pub labels-preserved : goal.labels-preserved
labels-preserved c =
    let r = take_rest c.args.text.now c.labels.at in
    let inside : c.labels.at + length c.in_ok-label.label.now ≤ length c.args.text.now =
    omega (arith, rw r at c.in_ok-label.ensures.within, length-drop c.labels.at c.args.text.now) in
    let more : c.labels.at + length c.in_ok-label.label.now + 1 < length c.args.text.now = omega (arith, inside) in (
      plain_more c.labels.invariant.0 (rw r at c.in_ok-label.ensures.front) (rw r at c.in_ok-label.ensures.label) refl (omega arith) (omega arith)
          c.set.ensures (omega arith) more,
      more,
      omega (arith, ap length c.set.ensures, length-set c.labels.octets c.labels.at (length c.in_ok-label.label.now)),
    )
