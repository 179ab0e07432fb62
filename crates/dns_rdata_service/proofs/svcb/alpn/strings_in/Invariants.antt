use Rattle.std.proofs.Common.{◌<◌, ◌≤◌, ◌^◌, ◌+◌, ◌-◌, length}
use Rattle.dns_rdata_service.proofs.svcb.alpn.strings_in.Given as goal

abbrev pub invariant-loop-offset : goal.invariant-loop-offset
invariant-loop-offset l = record { counted : l.count ≤ l.offset; bounded : l.count ≤ length l.octets; small : l.offset < 2 ^ 63 + 256 }

abbrev pub decreases-loop-offset : goal.decreases-loop-offset
decreases-loop-offset l = length l.octets - l.offset
