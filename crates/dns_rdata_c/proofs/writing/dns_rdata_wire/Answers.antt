use Rattle.std.proofs.Common.{arith}
use Rattle.dns_rdata_c.proofs.ViewCalls.{has_data, is_put, too_many}
use Rattle.dns_rdata_c.proofs.writing.dns_rdata_wire.Goals as goal

pub returns-then-status-ne-OK-clause-buffer : goal.returns-then-status-ne-OK-clause-buffer
returns-then-status-ne-OK-clause-buffer c = λ full. has_data _ c.in-Ok.ensures.found (λ v f.
    let told = c.told-status.ensures.buffer full in
    let e = (c.put_whole.ensures _ _ _ _ v c.in-Ok.ensures.found f).ends in
    record { short = omega (arith, e, told.1); too_many = too_many (omega (arith, e)) told.0 told.2 })

pub returns-then-status-ne-OK-clause-too_long : goal.returns-then-status-ne-OK-clause-too_long
returns-then-status-ne-OK-clause-too_long c = λ long. has_data _ c.in-Ok.ensures.found (λ v f.
    omega (arith, c.told-status.ensures.too_long long, (c.put_whole.ensures _ _ _ _ v c.in-Ok.ensures.found f).ends))

pub returns-clause-ok : goal.returns-clause-ok
returns-clause-ok c = λ ok. has_data _ c.in-Ok.ensures.found (λ v f.
    let told = c.told-status.ensures.ok c.if-status-ne-OK.false in
    let e = (c.put_whole.ensures _ _ _ _ v c.in-Ok.ensures.found f).ends in
    let p = c.put_whole-len.ensures _ _ _ _ v c.in-Ok.ensures.found f in
    record { short = omega (arith, e, told.1); put = is_put p (omega (arith, e, p.ends, told.0)) (omega (arith, e, p.ends, told.2)) })
