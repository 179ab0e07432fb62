use Rattle.std.proofs.Common.{length, ◌-◌}
use Rattle.dns_check.proofs.OptionLists.{OptionsRead}
use Rattle.dns_check.proofs.options.count_options.Given as goal

abbrev pub invariant-tlvs : goal.invariant-tlvs
invariant-tlvs l = OptionsRead l.octets l.count l.offset

abbrev pub decreases-tlvs : goal.decreases-tlvs
decreases-tlvs l = length l.octets - l.offset
