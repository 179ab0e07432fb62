use Rattle.std.proofs.Common.{arith}
use Rattle.dns_message.proofs.Follow.{found_none, found_more, found_as, found_breaks}
use Rattle.dns_message.proofs.records.skip_records.Goals as goal

pub loop-passed-init : goal.loop-passed-init
loop-passed-init c = (found_none c.args.message.now c.args.start c.args.left.now c.requires.some, omega arith)

pub loop-passed-preserved : goal.loop-passed-preserved
loop-passed-preserved c = (
  found_more c.in-Ok.fixed c.loop-passed.invariant.0 c.in-Ok.ensures.found c.in-Ok.ensures.within,
  omega (arith, c.in-Ok.ensures.inside),
)

pub returns-in-Err-clause-damaged : goal.returns-in-Err-clause-damaged
returns-in-Err-clause-damaged c =
    found_breaks _ c.in-Err.fault (omega arith) c.position_of-position.ensures c.loop-passed.invariant.0 c.in-Err.ensures.stopped

pub returns-clause-found : goal.returns-clause-found
returns-clause-found c = found_as _ _ (omega arith) c.loop-passed.invariant.0
