use Rattle.std.proofs.Common.{◌≡◌}
use Rattle.dns_zone_rows.proofs.Base32Steps.{DigitsSoFar}
use Rattle.dns_zone_rows.proofs.digits.put_base32_digits.Given as goal

abbrev pub invariant-loop-c : goal.invariant-loop-c
invariant-loop-c l = DigitsSoFar l.text l.initial.octets.items l.octets.items l.bits l.held l.c-index
