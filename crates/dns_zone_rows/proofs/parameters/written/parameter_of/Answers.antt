use Rattle.dns_tokens.specs.Reads.{Decides}
use Rattle.dns_zone_rows.specs.{Parameters.HasParameter, ParameterViews.parameter_value}
use Rattle.dns_zone_tokens.proofs.FirstSteps.{exit_with}
use Rattle.dns_zone_rows.proofs.ParameterSteps.{no_value}
use Rattle.dns_zone_rows.proofs.parameters.written.parameter_of.Goals as goal

pub returns-in_err-value-clause-reads : goal.returns-in_err-value-clause-reads
returns-in_err-value-clause-reads c =
    let e = c.in_err-value.field-0.0 in
    exit_with (Decides (HasParameter c.args.written.name.now c.args.written.value.now) parameter_value) e c.from_residual.result c.from_residual.ensures.1
    (no_value e c.in-Some.key c.args.written.name.now c.args.written.value.now c.in-Some.ensures.some c.in_err-value.ensures.reads)
