use Rattle.std.proofs.Common.{◌-◌, length}
use Rattle.dns_rdata_options.proofs.OptionLists.{Made}
use Rattle.dns_rdata_options.proofs.opt.reading.whole_options.Given as goal

abbrev pub invariant-tlvs : goal.invariant-tlvs
invariant-tlvs l = Made l.octets l.offset l.options.items

abbrev pub decreases-tlvs : goal.decreases-tlvs
decreases-tlvs l = length l.octets - l.offset
