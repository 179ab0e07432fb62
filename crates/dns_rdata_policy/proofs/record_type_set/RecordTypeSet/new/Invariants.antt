use Rattle.std.proofs.Common.{◌≡◌, map}
use Rattle.dns_types.specs.RecordTypes.{number_of}
use Rattle.dns_rdata_policy.proofs.record_type_set.RecordTypeSet.new.Given as goal

abbrev pub invariant-loop-kind : goal.invariant-loop-kind
invariant-loop-kind g l = l.numbers.items ≡ map number_of l.yielded
