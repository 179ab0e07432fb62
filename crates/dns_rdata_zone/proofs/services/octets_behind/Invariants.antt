use Rattle.std.proofs.Common.{◌≡◌, drop}
use Rattle.dns_rdata.specs.Data.{data_octets}
use Rattle.dns_rdata_zone.proofs.services.octets_behind.Given as goal

abbrev pub invariant-loop-i : goal.invariant-loop-i
invariant-loop-i l = l.octets.octets ≡ drop l.i (data_octets l.rdata)
