use Rattle.std.proofs.Common.{subst}
use Rattle.dns_rdata_service.specs.ParameterTokens.{IsValueAlone}
use Rattle.dns_rdata_service.proofs.{Splits.is_err, ParameterTokens.key_one}
use Rattle.dns_rdata_service.proofs.svcb.parameter_token.alone.Goals as goal

pub returns-in_err-value_alone-clause-refused : goal.returns-in_err-value_alone-clause-refused
returns-in_err-value_alone-clause-refused c =
    rw (is_err _ _ c.from_residual-in_err-value_alone.ensures.1) (λ h p is. c.in_err-value_alone.ensures.refused p.1
    (subst (λ k. IsValueAlone k p.1) (key_one c.args.token.now p.0 c.in_ok-key.key is.0 c.in_ok-key.ensures.value.0) is.1))
