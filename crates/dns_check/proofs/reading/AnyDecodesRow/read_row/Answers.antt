use Rattle.std.proofs.Common.{arith}
use Rattle.dns_check.proofs.ByRow.{straight_row}
use Rattle.dns_check.proofs.reading.AnyDecodesRow.read_row.Goals as goal

pub returns-clause-reads : goal.returns-clause-reads
returns-clause-reads g c = straight_row g.T.Record.facts _ _ _ _ g.met.T.DecodesFields.alone
    (record { octets = c.index-start.ensures.octets; short = omega arith }) c.read_fields.ensures.fields
