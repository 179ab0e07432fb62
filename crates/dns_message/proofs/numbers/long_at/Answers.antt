use Rattle.std.proofs.Common.{◌+◌, ◌-◌, arith, ap, length, length-take, length-drop, take, drop}
use Rattle.dns_names_wire.specs.State.{Reading}
use Rattle.dns_message.proofs.NumberFields.{number_there, number_inside}
use Rattle.dns_message.proofs.numbers.long_at.Goals as goal

pub returns-in-Ok : goal.returns-in-Ok
returns-in-Ok c =
    let k = c.args.offset + 4 - c.args.offset in
    number_inside {k = k} (omega arith) (omega arith)
    (number_there (take k (drop c.args.offset c.args.message.now)) 0 c.at-walk.ensures c.in-Ok.ensures.taken)

pub returns-in-Err : goal.returns-in-Err
returns-in-Err c =
    let k = c.args.offset + 4 - c.args.offset in
    let octets = drop c.args.offset c.args.message.now in
    let i = ap (λ (r : Reading). r.index) c.at-walk.ensures in
    let l = ap (λ (r : Reading). length r.message) c.at-walk.ensures in
    absurd (omega (arith, c.in-Err.ensures.lacking.1, i, l, length-take k octets, length-drop c.args.offset c.args.message.now))
