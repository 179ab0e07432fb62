use Rattle.std.proofs.Common.{arith}
use Rattle.dns_registry.proofs.LongSteps.{long_there}
use Rattle.dns_registry.proofs.keys.long_end.Goals as goal

pub returns-clause-some : goal.returns-clause-some
returns-clause-some c =
    long_there c.args.octets.now c.args.at (λ i. omega (arith, c.type_inv.octets i)) c.requires (omega (arith, c.if-octets-at-lt2.false)) c.if-octets-at.false
