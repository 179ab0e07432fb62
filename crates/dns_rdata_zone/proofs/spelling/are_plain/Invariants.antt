use Rattle.std.proofs.Common.{◌≡◌, take, flat_map}
use Rattle.dns_rdata_zone.proofs.spelling.are_plain.Given as goal

abbrev pub invariant-loop-octet : goal.invariant-loop-octet
invariant-loop-octet g l = flat_map g.S.Spelling.spelled (take l.octet-index l.octets) ≡ take l.octet-index l.octets
