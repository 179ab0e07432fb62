use Rattle.std.proofs.Common.{◌-◌, length}
use Rattle.dns_rdata_service.proofs.{ValueReads.EachOn, ValueReads.NameAt}
use Rattle.dns_rdata_service.proofs.svcb.alpn.AlpnBinDecodable.read.Given as goal

abbrev pub invariant-names : goal.invariant-names
invariant-names l = EachOn NameAt l.fn.decoder l.names l.decoder

abbrev pub decreases-names : goal.decreases-names
decreases-names l = length l.decoder.message - l.decoder.index
