use Rattle.std.proofs.Common.{◌≤◌, arith}
use Rattle.dns_tokens.specs.Ttl.{unitless}
use Rattle.dns_zone_tokens.proofs.texts.ttl_of.Goals as goal

pub returns-in-Some-clause-reads : goal.returns-in-Some-clause-reads
returns-in-Some-clause-reads c =
    let fits : c.in-Some.seconds ≤ 4294967295 = omega arith in
    (c.if-token.false, (record { sum = unitless c.in-Some.ensures.some.0 c.in-Some.ensures.some.1; fits = fits }, fits))
