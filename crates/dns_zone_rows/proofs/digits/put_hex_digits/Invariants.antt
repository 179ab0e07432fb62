use Rattle.std.proofs.Common.{◌≡◌}
use Rattle.dns_zone_rows.proofs.HexSteps.{HexSoFar}
use Rattle.dns_zone_rows.proofs.digits.put_hex_digits.Given as goal

abbrev pub invariant-loop-c : goal.invariant-loop-c
invariant-loop-c l = HexSoFar l.text l.initial.octets.items l.octets.items l.high l.odd l.c-index
