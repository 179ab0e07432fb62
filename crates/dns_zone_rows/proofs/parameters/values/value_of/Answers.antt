use Rattle.std.proofs.Common.{arith}
use Rattle.dns_zone_rows.proofs.ParameterValues.{too_long}
use Rattle.dns_zone_rows.proofs.parameters.values.value_of.Goals as goal

pub returns-then-len-gt65535-clause-reads : goal.returns-then-len-gt65535-clause-reads
returns-then-len-gt65535-clause-reads c = too_long c.args.key c.args.text.now c.in_ok-octets.octets c.in_ok-octets.ensures.reads (omega arith)
