use Rattle.std.proofs.{lemmas.Str.Pattern.strip_prefix_char, Common.arith}
use Rattle.dns_rdata_service.proofs.ParameterTokens.{bare}
use Rattle.dns_rdata_service.proofs.svcb.parameter_token.unquoted.Goals as goal

pub returns-in_default-clause-some : goal.returns-in_default-clause-some
returns-in_default-clause-some c =
    let found = strip_prefix_char 34 c.args.value.now c.strip_prefix.result c.strip_prefix.ensures.cases (omega arith) in
    bare c.args.value.now (rw c.in_default.is at found)
