use Rattle.std.proofs.Common.{arith}
use Rattle.dns_view.proofs.TlvSteps.{next_tlv, last_tlv}
use Rattle.dns_view.proofs.tlvs.split_first.Goals as goal

pub returns-in_err-end-clause-none : goal.returns-in_err-end-clause-none
returns-in_err-end-clause-none c =
    rw c.from_residual.ensures (last_tlv c.args.octets.now (λ i. omega (arith, c.type_inv.octets i)) c.in_err-end.ensures.none)

pub returns-clause-some : goal.returns-clause-some
returns-clause-some c = rw c.from_be_bytes.ensures (next_tlv c.in_ok-end.ensures.there)
