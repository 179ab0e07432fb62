use Rattle.std.proofs.Common.{◌≡◌, map, List}
use Rattle.std.specs.List.{AllZip}
use Rattle.dns_types.specs.{RecordTypes.number_of, RecordTypes.IsTypeText, declared.record_type.RecordType.RecordType}
use Rattle.dns_rdata_policy.proofs.csync.all_types.Given as goal

abbrev pub invariant-loop-token : goal.invariant-loop-token
invariant-loop-token g l = (types : List RecordType) × AllZip IsTypeText (map g.S.AsStr.text l.yielded) types × (l.numbers.items ≡ map number_of types)
