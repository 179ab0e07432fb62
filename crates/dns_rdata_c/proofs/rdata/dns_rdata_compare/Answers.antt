use Rattle.std.proofs.Common.{ap}
use Rattle.dns_types.specs.RecordTypes.{record_type_of}
use Rattle.dns_rdata_c.proofs.ViewCalls.{has_order}
use Rattle.dns_rdata_c.proofs.rdata.dns_rdata_compare.Goals as goal

pub returns-in-Some-clause-ok : goal.returns-in-Some-clause-ok
returns-in-Some-clause-ok c = λ ok. rw c.number_of.ensures (has_order c.in-Ok.ensures.found c.in-Ok-view_at.ensures.found
    (λ v w f g. c.in-Some.ensures _ _ _ _ v _ _ _ _ w c.in-Ok.ensures.found f c.in-Ok-view_at.ensures.found g))

pub returns-in-None-clause-types : goal.returns-in-None-clause-types
returns-in-None-clause-types c = λ other same.
    let a = c.in-Ok.ensures.found in
    let b = c.in-Ok-view_at.ensures.found in
    c.in-None.ensures _ _ _ _ _ _ _ _ _ _ a a.filled.fills b b.filled.fills (ap record_type_of same)
