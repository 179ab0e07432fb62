use Rattle.std.proofs.Common.{arith}
use Rattle.dns_rdata_zone.proofs.FirstOctet.{quote_first, unmarked_first}
use Rattle.dns_rdata_zone.proofs.reading.begins_unmarked.Goals as goal

pub returns-then-first-eq34 : goal.returns-then-first-eq34
returns-then-first-eq34 c = quote_first c.args.text.now (omega (arith, c.if-text-eq0.false)) c.if-first-eq34.true

pub returns : goal.returns
returns c = unmarked_first c.args.text.now (omega (arith, c.if-text-eq0.false)) c.if-first-le41.false c.if-first-eq59.false c.if-first-eq92.false
