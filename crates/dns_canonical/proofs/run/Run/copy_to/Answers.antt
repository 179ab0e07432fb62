use Rattle.std.proofs.{lemmas.List.drop-drop, lemmas.List.take_rest, Common.drop}
use Rattle.dns_canonical.proofs.Copying.{copies_both}
use Rattle.dns_canonical.proofs.run.Run.copy_to.Goals as goal

pub returns : goal.returns
returns c =
    let s = c.self.inside in
    let n = c.copy_front-kept.result in
    let count = rw (c.as_slice.ensures.value, take_rest s.head s.at) at c.copy_front-kept.ensures.count in
    let front = rw (c.as_slice.ensures.value, take_rest s.head s.at) at c.copy_front-kept.ensures.front in
    rw (← c.self.view_is, ← drop-drop n s.at s.head)
    (copies_both n c.copy_to.result (drop s.at s.head) c.args.buffer.now s.tail c.copy_to.new.self c.copy_front-kept.new.buffer c.copy_to.new.buffer count front c.copy_to.ensures)
