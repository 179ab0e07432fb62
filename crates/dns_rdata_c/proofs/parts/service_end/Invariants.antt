use Rattle.std.proofs.Common.{◌≡◌, ◌-◌, length, drop}
use Rattle.dns_rdata_c.specs.Parts.{after_name}
use Rattle.dns_rdata_c.proofs.parts.service_end.Given as goal

abbrev pub invariant-labels : goal.invariant-labels
invariant-labels l = after_name 2 (drop l.begin l.octets) ≡ after_name 0 (drop l.at l.octets)

abbrev pub decreases-labels : goal.decreases-labels
decreases-labels l = length l.octets - l.at
