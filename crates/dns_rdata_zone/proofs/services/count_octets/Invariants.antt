use Rattle.std.proofs.Common.{◌≡◌, ◌+◌, length}
use Rattle.dns_rdata.specs.Data.{data_octets}
use Rattle.dns_rdata_zone.proofs.services.count_octets.Given as goal

abbrev pub decreases-octets : goal.decreases-octets
decreases-octets l = length l.octets.octets

abbrev pub invariant-octets : goal.invariant-octets
invariant-octets l = l.count + length l.octets.octets ≡ length (data_octets l.rdata)
