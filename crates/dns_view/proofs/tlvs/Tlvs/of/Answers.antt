use Rattle.std.proofs.Common.{arith}
use Rattle.dns_view.proofs.TlvSteps.{all_of}
use Rattle.dns_view.proofs.tlvs.Tlvs.of.Goals as goal

pub returns : goal.returns
returns c = all_of c.args.octets.now (λ i. omega (arith, c.type_inv.octets i))
