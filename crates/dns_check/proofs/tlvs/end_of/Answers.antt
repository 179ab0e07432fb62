use Rattle.std.proofs.Common.{arith}
use Rattle.dns_check.proofs.TlvParts.{part_there}
use Rattle.dns_check.proofs.tlvs.end_of.Goals as goal

pub returns-clause-there : goal.returns-clause-there
returns-clause-there c = part_there c.args.octets.now c.args.offset c.from_be_bytes-size.result (λ i. omega (arith, c.type_inv.octets i)) (omega arith)
    c.from_be_bytes-size.ensures
