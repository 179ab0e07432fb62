use Rattle.dns_rdata_policy.proofs.{WindowSteps.WindowMade, WindowSteps.window_given, WindowSteps.window_passed, WindowSteps.window_none, Rising.set_drop}
use Rattle.dns_rdata_policy.proofs.csync.window_step.Goals as goal

pub next_window-window-requires-clause-set : goal.next_window-window-requires-clause-set
next_window-window-requires-clause-set c = rw (c.split_at.ensures.back, c.numbers-numbers.ensures.value) (set_drop c.args.part _ c.numbers-numbers.ensures.set)

pub returns-then-part-numbers-clause-octets : goal.returns-then-part-numbers-clause-octets
returns-then-part-numbers-clause-octets c = λ j. window_none _ _ j _ (rw c.numbers-numbers.ensures.value at c.if-part-numbers.true) c.requires.empty

pub returns : goal.returns
returns c =
    let x = c.args.x.now in
    let i = c.args.part in
    let w = c.next_window-window.result in
    let o = c.next_window-window.new.octets in
    let e = c.next_window-window.ensures in
    let made : WindowMade x.type_bit_maps i w.number w.len w.count o c.octets.new.self = record {
      few = e.len;
      long = e.room;
      small = e.number;
      next = rw (c.split_at.ensures.back, c.numbers-numbers.ensures.value) at e.next;
      made = cc;
    } in
    rw c.none.ensures (record {
      octets = λ j. window_given x i w.number w.len w.count j o _ made;
      passes = window_passed x _ _ i w.number w.len w.count o _ made e.pass;
    })
