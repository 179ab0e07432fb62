use Rattle.std.proofs.Common.{arith, ◌<◌, ◌+◌}
use Rattle.dns_check.proofs.Strings.{strings_refused}
use Rattle.dns_check.proofs.fields.skip_strings.Goals as goal

pub returns-in-Err : goal.returns-in-Err
returns-in-Err c =
    let lt : c.strings.walk.index < c.args.start + c.args.len = omega arith in
    strings_refused c.strings.invariant c.in-Err.ensures.taken lt c.in-Err.ensures.lacking.0 c.in-Err.ensures.lacking.1
