use Rattle.dns_names_wire.proofs.StepCounts.{one_count, step_examples}
use Rattle.dns_names_wire.proofs.name_ends.name_steps_hold.Goals as goal

pub returns-clause-one : goal.returns-clause-one
returns-clause-one c = one_count

pub returns-clause-examples : goal.returns-clause-examples
returns-clause-examples c = step_examples
