use Rattle.dns_check.proofs.Skips.{flags_as, parameters_as}
use Rattle.dns_check.proofs.fields.skip_field.Goals as goal

pub returns-in-KnownFlags : goal.returns-in-KnownFlags
returns-in-KnownFlags c = flags_as c.skip_flags.ensures c.in-KnownFlags.is c.in-Number.is c.requires.covered

pub returns-in-Parameters : goal.returns-in-Parameters
returns-in-Parameters c = parameters_as c.skip_parameters.ensures c.in-Parameters.is c.requires.covered
