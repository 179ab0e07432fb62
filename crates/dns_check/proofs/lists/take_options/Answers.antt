use Rattle.std.proofs.Common.{◌≡◌, ◌+◌, ◌≤◌, ◌∙◌, length, ap, arith}
use Rattle.dns_names_wire.specs.State.{Reading}
use Rattle.dns_check.proofs.ListRows.{options_took, start_of}
use Rattle.dns_check.proofs.lists.take_options.Goals as goal

pub returns-in-Some-clause-took : goal.returns-in-Some-clause-took
returns-in-Some-clause-took c =
    let start = start_of c.index-start.ensures.offset c.walk-walk.ensures in
    let message : c.message-2.result.now ≡ c.args.decoder.now.message = c.message-2.ensures ∙ ap (λ (r : Reading). r.message) c.walk-walk.ensures in
    let first : c.message.result.now ≡ c.args.decoder.now.message = c.message.ensures ∙ ap (λ (r : Reading). r.message) c.walk-walk.ensures in
    let inside = rw (c.walk-walk.ensures) at c.index-start.ensures.inside in
    let room : c.args.decoder.now.index + c.args.length ≤ length c.args.decoder.now.message =
    omega (arith, start, inside, c.if-message-start.false, c.unverified-len.ensures, ap length first) in
    rw (c.follow.ensures, c.move_to.ensures, c.walk-walk.ensures, start, c.unverified-len.ensures, message)
    (options_took (rw (c.walk-walk.ensures) at c.index-start.ensures.octets) (omega arith) room
    (rw (start, c.unverified-len.ensures, message) at c.in-Some.ensures.options)
    (rw (start, c.unverified-len.ensures, message) at c.in-Some.ensures.count))
