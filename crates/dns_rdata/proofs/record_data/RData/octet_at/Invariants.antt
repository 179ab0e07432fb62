use Rattle.std.proofs.Common.{◌≡◌, length, slice_get}
use Rattle.dns_rdata.specs.Data.{data_octets}
use Rattle.dns_rdata.proofs.record_data.RData.octet_at.Given as goal

abbrev pub decreases-octets : goal.decreases-octets
decreases-octets l = length l.octets.octets

abbrev pub invariant-octets : goal.invariant-octets
invariant-octets l = slice_get l.octets.octets l.left ≡ slice_get (data_octets l.self) l.index
