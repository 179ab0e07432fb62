use Rattle.dns_zone_rows.specs.{ParameterSteps.ReadsNext, ParameterViews.parameter_value}
use Rattle.dns_zone_tokens.proofs.FirstSteps.{exit_with}
use Rattle.dns_zone_rows.proofs.ParameterSteps.{took_parameter, no_parameter}
use Rattle.dns_zone_rows.proofs.parameters.written.next_parameter.Goals as goal

pub returns-in_err-parameter_of-in-Some-clause-reads : goal.returns-in_err-parameter_of-in-Some-clause-reads
returns-in_err-parameter_of-in-Some-clause-reads c =
    let e = c.in_err-parameter_of-in-Some.field-0.0 in
    let took = rw c.in-Some.is at c.in_ok-written.ensures.took in
    exit_with (λ r. ReadsNext r c.args.tokens.now c.next_written.new.tokens) e c.from_residual-in_err-parameter_of-in-Some.result
    c.from_residual-in_err-parameter_of-in-Some.ensures.1
    (no_parameter e c.in-Some.written.name.now c.in-Some.written.value.now c.args.tokens.now c.next_written.new.tokens took c.in_err-parameter_of-in-Some.ensures.reads)

pub returns-in_ok-parameter_of-in-Some-clause-reads : goal.returns-in_ok-parameter_of-in-Some-clause-reads
returns-in_ok-parameter_of-in-Some-clause-reads c =
    let took = rw c.in-Some.is at c.in_ok-written.ensures.took in
    took_parameter c.in-Some.written.name.now c.in-Some.written.value.now (parameter_value c.in_ok-parameter_of-in-Some.field-0) c.args.tokens.now
    c.next_written.new.tokens took c.in_ok-parameter_of-in-Some.ensures.reads
