use Rattle.std.proofs.Common.{subst}
use Rattle.dns_rdata_service.specs.ParameterTokens.{IsValueText}
use Rattle.dns_rdata_service.proofs.{Splits.is_err, ParameterTokens.key_one, ParameterTokens.unquoted_one}
use Rattle.dns_rdata_service.proofs.svcb.parameter_token.with_value.Goals as goal

pub returns-in_default-clause-refused : goal.returns-in_default-clause-refused
returns-in_default-clause-refused c = λ h p is. c.in_default.ensures.none is.1.text is.1.unquoted

pub returns-in_err-value_of-clause-refused : goal.returns-in_err-value_of-clause-refused
returns-in_err-value_of-clause-refused c =
    rw (is_err _ _ c.from_residual-in_err-value_of.ensures.1) (λ h p is. c.in_err-value_of.ensures.refused h p.1
    (subst (λ k. IsValueText k c.in-Some.text.now p.1) (key_one c.args.key.now p.0 c.in_ok-key.key is.0 c.in_ok-key.ensures.value.0)
    (subst (λ t. IsValueText p.0 t p.1) (unquoted_one c.args.value.now is.1.text c.in-Some.text.now is.1.unquoted c.in-Some.ensures.some) is.1.value)))
