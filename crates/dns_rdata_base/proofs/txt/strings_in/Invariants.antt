use Rattle.std.proofs.Common.{◌-◌, length}
use Rattle.dns_rdata_base.proofs.TextLists.{Made}
use Rattle.dns_rdata_base.proofs.txt.strings_in.Given as goal

abbrev pub invariant-loop-offset : goal.invariant-loop-offset
invariant-loop-offset l = Made l.octets l.offset l.strings

abbrev pub decreases-loop-offset : goal.decreases-loop-offset
decreases-loop-offset l = length l.octets - l.offset
