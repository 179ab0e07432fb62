use Rattle.std.proofs.Common.{take}
use Rattle.dns_fields.specs.Bitmaps.{has_type}
use Rattle.dns_rdata_policy.specs.RecordTypeSet.{held, Adds}
use Rattle.dns_rdata_policy.proofs.record_type_set.reading.add_octets.Given as goal

abbrev pub invariant-loop-i : goal.invariant-loop-i
invariant-loop-i l = Adds (λ t. has_type t (l.window, take l.i l.octets)) (held l.initial.numbers.items) (held l.numbers.items)
