use Rattle.std.proofs.Common.{arith}
use Rattle.dns_rdata.proofs.DataLaws.{reads_canonical}
use Rattle.dns_view.proofs.Puts.{put_size}
use Rattle.dns_rdata_c.proofs.ViewCalls.{has_data, is_put, holds_first}
use Rattle.dns_rdata_c.proofs.writing.dns_rdata_canonical.Goals as goal

pub returns-in-Ok-clause-ok : goal.returns-in-Ok-clause-ok
returns-in-Ok-clause-ok c = λ ok. has_data _ c.in-Ok.ensures.found (λ v f.
    let told = c.told.ensures.ok ok in
    let p = c.put_canonical.ensures _ _ _ _ v c.in-Ok.ensures.found f in
    (is_put p (omega (arith, told.0, put_size p)) told.2, reads_canonical _ _ _ _ v f))

pub returns-in-Ok-clause-buffer : goal.returns-in-Ok-clause-buffer
returns-in-Ok-clause-buffer c = λ full. has_data _ c.in-Ok.ensures.found (λ v f.
    let told = c.told.ensures.buffer full in
    let p = c.put_canonical.ensures _ _ _ _ v c.in-Ok.ensures.found f in
    (omega (arith, p.ends, told.0, put_size p), omega (arith, p.ends, told.2), holds_first p))

pub returns-in-Ok-clause-too_long : goal.returns-in-Ok-clause-too_long
returns-in-Ok-clause-too_long c = λ long. has_data _ c.in-Ok.ensures.found (λ v f.
    let p = c.put_canonical.ensures _ _ _ _ v c.in-Ok.ensures.found f in
    (omega (arith, p.ends, c.told.ensures.too_long long), holds_first p))
