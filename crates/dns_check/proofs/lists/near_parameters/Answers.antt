use Rattle.std.proofs.Common.{arith}
use Rattle.dns_fields.proofs.NameLaws.{name_inside}
use Rattle.dns_check.proofs.ListRows.{parameters_took}
use Rattle.dns_check.proofs.lists.near_parameters.Goals as goal

pub count_parameters-requires-clause-within : goal.count_parameters-requires-clause-within
count_parameters-requires-clause-within c = (name_inside c.in-Some.ensures.some.is).1

pub returns-in-Some-count_parameters : goal.returns-in-Some-count_parameters
returns-in-Some-count_parameters c =
    parameters_took c.index-start.ensures.octets (omega arith) c.index-start.ensures.offset c.message-message.ensures c.unverified.ensures
    c.if-message-start-lt2.false
    c.in-Some.ensures.some c.in-Some-count_parameters.ensures
