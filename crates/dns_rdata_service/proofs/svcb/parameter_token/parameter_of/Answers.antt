use Rattle.dns_rdata_service.proofs.ParameterTokens.{not_divided, divided, token_read, token_refused}
use Rattle.dns_rdata_service.proofs.svcb.parameter_token.parameter_of.Goals as goal

pub returns-in-Some-clause-ok : goal.returns-in-Some-clause-ok
returns-in-Some-clause-ok c = token_read (divided _ _ _ c.split_once.ensures.cases c.in-Some.is) _ c.with_value.ensures.ok

pub returns-in-Some-clause-refused : goal.returns-in-Some-clause-refused
returns-in-Some-clause-refused c = token_refused (divided _ _ _ c.split_once.ensures.cases c.in-Some.is) _ c.with_value.ensures.refused

pub returns-in-None-clause-ok : goal.returns-in-None-clause-ok
returns-in-None-clause-ok c = token_read (not_divided _ _ c.split_once.ensures.cases c.in-None.is) _ c.alone.ensures.ok

pub returns-in-None-clause-refused : goal.returns-in-None-clause-refused
returns-in-None-clause-refused c = token_refused (not_divided _ _ c.split_once.ensures.cases c.in-None.is) _ c.alone.ensures.refused
