use Rattle.std.proofs.Common.{refl, arith}
use Rattle.dns_rdata_c.proofs.ViewCalls.{has_name, is_put, too_many}
use Rattle.dns_rdata_c.proofs.names.dns_rdata_name.Goals as goal

pub returns-then-count-out-clause-buffer : goal.returns-then-count-out-clause-buffer
returns-then-count-out-clause-buffer c = λ full.
    has_name _ c.in-Ok.ensures.found (λ v f. c.in-Some.ensures _ _ _ _ v c.in-Ok.ensures.found f)
    (λ x end is. (too_many (omega (arith, (c.put.ensures x end is).ends)) c.if-count-out.true refl, c.offset.ensures))

pub returns-clause-ok : goal.returns-clause-ok
returns-clause-ok c = λ ok. has_name _ c.in-Ok.ensures.found (λ v f. c.in-Some.ensures _ _ _ _ v c.in-Ok.ensures.found f) (λ x end is.
    let p = c.put-len.ensures x end is in
    let e = (c.put.ensures x end is).ends in
    (is_put p (omega (arith, p.ends, e, c.if-count-out.false)) (omega (arith, p.ends, e)), c.offset.ensures))
