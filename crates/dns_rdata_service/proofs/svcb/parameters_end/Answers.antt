use Rattle.std.proofs.Common.{arith}
use Rattle.dns_rdata_service.proofs.ParameterReads.{svcb_within}
use Rattle.dns_rdata_service.proofs.svcb.parameters_end.Goals as goal

pub returns-in-Some-clause-there : goal.returns-in-Some-clause-there
returns-in-Some-clause-there c = rw (c.index.ensures.offset, c.unverified.ensures) c.in-Some.ensures.there

pub returns-in-Some-clause-inside : goal.returns-in-Some-clause-inside
returns-in-Some-clause-inside c =
    let w = svcb_within c.in-Some.ensures.there in
    (omega (arith, c.index.ensures.offset), omega (arith, c.index.ensures.offset, c.unverified.ensures, w.1))
