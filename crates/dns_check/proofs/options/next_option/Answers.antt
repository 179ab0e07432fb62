use Rattle.std.proofs.Common.{◌≡◌, ◌+◌, ◌-◌, ◌≤◌, arith}
use Rattle.dns_check.proofs.OptionLists.{cut_short, tlv_read}
use Rattle.dns_check.proofs.options.next_option.Goals as goal

pub returns-in-Ok-read_in_steps : goal.returns-in-Ok-read_in_steps
returns-in-Ok-read_in_steps c =
    let inside : c.read_u16-2.new.self.index ≤ c.args.start + c.args.len = omega (arith, c.index-3.ensures.offset, c.if-end-index-2.false) in
    let there : c.read_u16-2.new.self.index + (c.args.start + c.args.len - c.index-4.result) ≡ c.args.start + c.args.len =
    omega (arith, c.index-4.ensures.offset, inside) in
    cut_short c.in-Ok.ensures.taken c.in-Ok-read_u16.ensures.taken c.in-Ok-read_in_steps.ensures.taken there (omega arith) (omega arith)

pub returns-in-Ok-read_in_steps-2 : goal.returns-in-Ok-read_in_steps-2
returns-in-Ok-read_in_steps-2 c =
    let inside : c.read_u16-2.new.self.index ≤ c.args.start + c.args.len = omega (arith, c.index-3.ensures.offset, c.if-end-index-2.false) in
    let enough : c.read_u16-2.new.self.index + c.in-Ok-read_u16.size ≤ c.args.start + c.args.len =
    omega (arith, c.index-4.ensures.offset, inside, c.if-left-size.false) in
    tlv_read c.in-Ok.ensures.taken c.in-Ok-read_u16.ensures.taken c.in-Ok-read_in_steps-2.ensures.taken enough
