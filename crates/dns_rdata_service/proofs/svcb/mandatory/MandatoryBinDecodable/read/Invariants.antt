use Rattle.std.proofs.Common.{◌-◌, length}
use Rattle.dns_rdata_service.proofs.{ValueReads.EachOn, ValueReads.KeyAt}
use Rattle.dns_rdata_service.proofs.svcb.mandatory.MandatoryBinDecodable.read.Given as goal

abbrev pub invariant-keys : goal.invariant-keys
invariant-keys l = EachOn KeyAt l.fn.decoder l.keys l.decoder

abbrev pub decreases-keys : goal.decreases-keys
decreases-keys l = length l.decoder.message - l.decoder.index
