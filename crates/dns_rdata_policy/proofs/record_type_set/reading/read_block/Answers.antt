use Rattle.std.proofs.Common.{arith}
use Rattle.dns_rdata_policy.proofs.Marks.{took_block}
use Rattle.dns_rdata_policy.proofs.record_type_set.reading.read_block.Goals as goal

pub returns-clause-read : goal.returns-clause-read
returns-clause-read c =
    took_block c.in_ok-len.len c.args.octets.now _ c.in_ok-len.ensures.fits (omega (arith, c.type_inv.octets 0)) c.in_ok-add_octets.ensures
