use Rattle.std.proofs.Common.{refl}
use Rattle.dns_check.proofs.ParameterSteps.{one_taken}
use Rattle.dns_check.proofs.parameters.skip_parameter.Goals as goal

pub returns-in-Ok-check_value-clause-taken : goal.returns-in-Ok-check_value-clause-taken
returns-in-Ok-check_value-clause-taken c =
    one_taken c.in-Ok.ensures.taken c.in-Ok-read_u16.ensures.taken c.in-Ok-read_slice.ensures.taken refl c.in-Ok-check_value.ensures.found
