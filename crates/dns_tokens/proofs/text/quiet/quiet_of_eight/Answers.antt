use Rattle.std.proofs.Common.{arith}
use Rattle.dns_tokens.proofs.QuietSteps.{all_quiet, first_quiet}
use Rattle.dns_tokens.proofs.text.quiet.quiet_of_eight.Goals as goal

pub returns-then-marks-eq0-clause-quiet : goal.returns-then-marks-eq0-clause-quiet
returns-then-marks-eq0-clause-quiet c = all_quiet 8 c.args.most c.args.b c.args.c c.args.text.now (omega arith) c.requires c.if-marks-eq0.true

pub returns-clause-within : goal.returns-clause-within
returns-clause-within c = (first_quiet 8 c.args.most c.args.b c.args.c c.args.text.now (omega arith) c.requires (omega (arith, c.if-marks-eq0.false))).0

pub returns-clause-quiet : goal.returns-clause-quiet
returns-clause-quiet c = (first_quiet 8 c.args.most c.args.b c.args.c c.args.text.now (omega arith) c.requires (omega (arith, c.if-marks-eq0.false))).1
