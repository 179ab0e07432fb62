use Rattle.std.proofs.Common.{◌≡◌, arith, rules}
use Rattle.dns_rdata_zone.specs.ZoneTexts.{zone_text}
use Rattle.dns_rdata_c.proofs.ViewCalls.{has_data}
use Rattle.dns_rdata_c.proofs.writing.dns_rdata_text.Goals as goal

pub returns-then-put_whole-gt-MAX_OCTETS-clause-too_long : goal.returns-then-put_whole-gt-MAX_OCTETS-clause-too_long
returns-then-put_whole-gt-MAX_OCTETS-clause-too_long c = λ long. has_data _ c.in-Ok.ensures.found (λ v f.
    omega (arith, c.if-put_whole-gt-MAX_OCTETS.true, (c.put_whole.ensures _ _ _ _ v c.in-Ok.ensures.found f).ends))

pub returns-clause-ok : goal.returns-clause-ok
returns-clause-ok c = λ ok.
    let f = c.in-Ok-to_rdata.ensures _ _ _ _ c.in-Ok.ensures.found in
    let len = (c.put_whole.ensures _ _ _ _ _ c.in-Ok.ensures.found f).ends in
    let same : c.as_bytes.result.now ≡ zone_text c.in-Ok-to_rdata.value = search rules in
    record { value = _; fills = f; holds = (omega (arith, c.if-put_whole-gt-MAX_OCTETS.false, len), rw same at c.put_text.ensures.ok ok) }

pub returns-clause-buffer : goal.returns-clause-buffer
returns-clause-buffer c = λ full.
    let f = c.in-Ok-to_rdata.ensures _ _ _ _ c.in-Ok.ensures.found in
    let len = (c.put_whole.ensures _ _ _ _ _ c.in-Ok.ensures.found f).ends in
    let same : c.as_bytes.result.now ≡ zone_text c.in-Ok-to_rdata.value = search rules in
    record { value = _; fills = f; holds = (omega (arith, c.if-put_whole-gt-MAX_OCTETS.false, len), rw same at c.put_text.ensures.buffer full) }

pub returns-clause-cause : goal.returns-clause-cause
returns-clause-cause c = λ high. absurd (omega (arith, high, c.put_text.ensures.status))
