use Rattle.std.proofs.Common.{length, ◌-◌}
use Rattle.dns_check.proofs.TlvParts.{PartsCounted}
use Rattle.dns_check.proofs.tlvs.count_parts.Given as goal

abbrev pub invariant-parts : goal.invariant-parts
invariant-parts l = PartsCounted l.octets l.count l.offset

abbrev pub decreases-parts : goal.decreases-parts
decreases-parts l = length l.octets - l.offset
