use Rattle.std.proofs.Common.{◌+◌, ◌<◌, ◌∙◌, arith}
use Rattle.dns_check.proofs.Strings.{counted_none, counted_more}
use Rattle.dns_check.proofs.ListRows.{slice_same, start_of, strings_rejected, strings_took}
use Rattle.dns_check.proofs.lists.take_strings.Goals as goal

pub strings-init : goal.strings-init
strings-init c = rw (c.walk-walk.ensures) (counted_none _ (rw (c.walk-walk.ensures) at c.index-start.ensures.inside))

pub strings-preserved : goal.strings-preserved
strings-preserved c = counted_more c.strings.invariant c.in-Ok.ensures.taken (omega (arith, c.index.ensures.offset, c.strings-test.true))

pub returns-in-Err-clause-rejected : goal.returns-in-Err-clause-rejected
returns-in-Err-clause-rejected c =
    let lt : c.strings.walk.index < c.index-start.result + c.unverified.result = omega (arith, c.index.ensures.offset, c.strings-test.true) in
    strings_rejected (omega (arith, start_of c.index-start.ensures.offset c.walk-walk.ensures, c.unverified.ensures)) c.strings.invariant.on
    c.in-Err.ensures.taken lt c.in-Err.ensures.lacking.0 c.in-Err.ensures.lacking.1

pub returns-clause-took : goal.returns-clause-took
returns-clause-took c =
    let start = start_of c.index-start.ensures.offset c.walk-walk.ensures in
    rw (c.follow.ensures) (strings_took (rw (c.walk-walk.ensures) at c.index-start.ensures.octets) (omega arith)
    (omega (arith, start, c.unverified.ensures)) c.strings.invariant (omega (arith, c.index.ensures.offset, c.strings-test.false))
    (slice_same start c.index-2.ensures.offset (c.message.ensures ∙ c.strings.invariant.on.message)))
