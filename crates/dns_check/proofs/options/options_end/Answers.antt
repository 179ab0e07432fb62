use Rattle.std.proofs.Common.{arith}
use Rattle.dns_check.proofs.OptionLists.{options_fill}
use Rattle.dns_check.proofs.options.options_end.Goals as goal

pub returns-in-Some : goal.returns-in-Some
returns-in-Some c = options_fill c.args.start c.args.len (omega arith) (omega arith) c.in-Some.ensures.options
