use Rattle.std.proofs.Common.{arith}
use Rattle.dns_check.proofs.TlvParts.{parts_first, parts_more, parts_stopped, parts_done}
use Rattle.dns_check.proofs.tlvs.count_parts.Goals as goal

pub parts-init : goal.parts-init
parts-init c = parts_first c.args.octets.now

pub parts-preserved : goal.parts-preserved
parts-preserved c =
    parts_more c.parts.invariant c.parts-test.true c.in-Some.ensures.some.1 c.in-Some.ensures.some.0 c.in-Some.ensures.there c.in-Some.ensures.is

pub returns-in-None-clause-none : goal.returns-in-None-clause-none
returns-in-None-clause-none c = λ e. parts_stopped c.parts.invariant.on c.parts-test.true c.in-None.ensures.none e

pub returns-clause-some : goal.returns-clause-some
returns-clause-some c = parts_done c.parts.invariant (omega (arith, c.parts-test.false))
