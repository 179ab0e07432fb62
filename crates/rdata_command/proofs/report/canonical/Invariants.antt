use Rattle.std.proofs.Common.{◌≡◌, ◌++◌, length}
use Rattle.dns_rdata.specs.Data.{data_octets}
use Rattle.rdata_command.proofs.report.canonical.Given as goal

abbrev pub invariant-octets : goal.invariant-octets
invariant-octets l = l.octets.items ++ l.left.octets ≡ data_octets l.value

abbrev pub decreases-octets : goal.decreases-octets
decreases-octets l = length l.left.octets
