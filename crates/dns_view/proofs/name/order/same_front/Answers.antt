use Rattle.std.proofs.Common.{◌+◌, arith}
use Rattle.dns_canonical.proofs.Sharing.{same_further}
use Rattle.dns_view.proofs.name.order.same_front.Goals as goal

pub eights-preserved : goal.eights-preserved
eights-preserved c = (
  same_further c.eights.at (c.eights.at + 8) c.args.a.now c.args.b.now (omega arith) c.eights.invariant.0
      (c.same_octets.ensures.0 c.if-not-same_octets.false),
  omega arith,
)

pub returns-then-same_octets-clause-same : goal.returns-then-same_octets-clause-same
returns-then-same_octets-clause-same c = same_further c.eights.at c.min-most.result c.args.a.now c.args.b.now (omega arith) c.eights.invariant.0
    (c.same_octets-2.ensures.0 c.if-same_octets.true)
