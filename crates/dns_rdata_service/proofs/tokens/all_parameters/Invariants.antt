use Rattle.std.proofs.Common.{map}
use Rattle.std.specs.List.{AllZip}
use Rattle.dns_rdata_service.specs.ParameterTokens.{IsParameterToken}
use Rattle.dns_rdata_service.proofs.tokens.all_parameters.Given as goal

abbrev pub invariant-loop-token : goal.invariant-loop-token
invariant-loop-token g l = AllZip IsParameterToken (map g.S.AsStr.text l.yielded) l.parameters
