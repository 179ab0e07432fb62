use Rattle.std.proofs.Common.{◌-◌, length}
use Rattle.dns_rdata_service.proofs.ValueReads.{EachOn}
use Rattle.dns_rdata_service.proofs.svcb.ip_hint.IpHint.read.Given as goal

abbrev pub invariant-items : goal.invariant-items
invariant-items g l = EachOn g.T.BinDecodable.stands l.fn.decoder l.items l.decoder

abbrev pub decreases-items : goal.decreases-items
decreases-items g l = length l.decoder.message - l.decoder.index
