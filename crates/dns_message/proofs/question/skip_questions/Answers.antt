use Rattle.std.proofs.Common.{arith}
use Rattle.dns_message.proofs.Follow.{asked_none, asked_more, asked_as, asked_breaks}
use Rattle.dns_message.proofs.question.skip_questions.Goals as goal

pub loop-index-init : goal.loop-index-init
loop-index-init c = (asked_none c.args.message.now c.args.left.now c.requires.some, omega arith)

pub loop-index-preserved : goal.loop-index-preserved
loop-index-preserved c = (
  asked_more c.in-Ok.asked c.loop-index.invariant.0 c.in-Ok.ensures.found c.in-Ok.ensures.within,
  omega (arith, c.in-Ok.ensures.inside),
)

pub returns-in-Err-clause-damaged : goal.returns-in-Err-clause-damaged
returns-in-Err-clause-damaged c = asked_breaks _ c.in-Err.fault (omega arith) c.loop-index.invariant.0 c.in-Err.ensures.stopped

pub returns-clause-found : goal.returns-clause-found
returns-clause-found c = asked_as _ _ (omega arith) c.loop-index.invariant.0
