use Rattle.std.proofs.Common.{arith}
use Rattle.dns_check.proofs.StepRows.{none_in}
use Rattle.dns_check.proofs.fields.pass_field.Goals as goal

pub returns-in-Name-clause-skips : goal.returns-in-Name-clause-skips
returns-in-Name-clause-skips c = rw c.in-Name.is c.pass_one_name.ensures.skips

pub returns-in-Name-clause-steps : goal.returns-in-Name-clause-steps
returns-in-Name-clause-steps c = rw c.in-Name.is c.pass_one_name.ensures.steps

pub returns-in_default-clause-steps : goal.returns-in_default-clause-steps
returns-in_default-clause-steps c = (0, none_in c.args.kind c.args.walk.now c.in_default.not-Name, omega arith)
