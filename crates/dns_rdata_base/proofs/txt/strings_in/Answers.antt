use Rattle.std.proofs.Common.{arith, rules}
use Rattle.dns_rdata_base.proofs.TextLists.{made_none, made_more, made_all}
use Rattle.dns_rdata_base.proofs.txt.strings_in.Goals as goal

pub loop-offset-init : goal.loop-offset-init
loop-offset-init c = rw c.in_ok-strings.ensures (made_none c.args.octets.now)

pub returns : goal.returns
returns c = made_all c.loop-offset.invariant (omega (arith, c.loop-offset-test.false))

pub loop-offset-preserved : goal.loop-offset-preserved
loop-offset-preserved c =
    made_more c.loop-offset.invariant c.loop-offset-test.true c.min-end.ensures c.in_ok-from_slice.ensures c.in_ok-push.ensures.ok
