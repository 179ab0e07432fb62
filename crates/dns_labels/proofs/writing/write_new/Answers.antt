use Rattle.std.proofs.Common.{◌+◌, ◌<◌, length, arith, length-take}
use Rattle.dns_labels.specs.Reading.{stop_octets}
use Rattle.dns_labels.proofs.Wrote.{lacks_room}
use Rattle.dns_labels.proofs.writing.write_new.Goals.{then-start-limit-via-then-start-limit, then-start-limit-via-else-start-limit+then-limit-start}
use Rattle.dns_labels.proofs.writing.write_new.Goals as goal

pub returns-then-start-limit-clause-full : goal.returns-then-start-limit-clause-full
returns-then-start-limit-clause-full c = λ e.
    let cut = c.in_ok-cut.cut.written in
    let full : c.args.limit < length c.args.out.now.items + (cut + length (stop_octets c.in_ok-cut.cut.target)) = elim c.then-start-limit.branch [
      | then-start-limit-via-then-start-limit w ↦ omega (arith, c.len-start.ensures)
      | then-start-limit-via-else-start-limit+then-limit-start w ↦ omega (arith, c.len-start.ensures, c.stop_len.ensures, length-take cut c.args.name.now)
    ] in
    lacks_room c.as_slice.ensures.value c.in_ok-cut.ensures.cut full
