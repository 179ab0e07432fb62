use Rattle.dns_canonical.proofs.Copying.{name_fills, name_ends}
use Rattle.dns_canonical.proofs.tail.Tail.copy_to.Goals as goal

pub returns-then-n-buffer : goal.returns-then-n-buffer
returns-then-n-buffer c =
    rw (← c.self.view_is, c.if-not-self.false) (name_fills c.copy_lowered-n.result c.self.inside.octets.now c.args.buffer.now c.copy_lowered-n.new.buffer c.copy_lowered-n.ensures.count c.copy_lowered-n.ensures.front c.if-n-buffer.true)

pub returns : goal.returns
returns c =
    rw (← c.self.view_is, c.if-not-self.false) (name_ends c.copy_lowered-n.result c.self.inside.octets.now c.args.buffer.now c.copy_lowered-n.new.buffer c.copy_lowered-n.ensures.count c.copy_lowered-n.ensures.front c.if-n-buffer.false)
