use Rattle.std.proofs.Common.{◌≡◌, rules}
use Rattle.dns_rdata_c.specs.Why.{reason_text}
use Rattle.dns_rdata_c.proofs.ZoneReads.{why_none}
use Rattle.dns_rdata_c.proofs.parse.dns_rdata_parse_why.Goals as goal

pub returns-clause-ok : goal.returns-clause-ok
returns-clause-ok c = λ ok.
    let e = rw (c.as_ref.ensures.value, c.from-record_type.ensures.0) at c.in-Err-from_zone_text.ensures in
    let same : c.as_bytes.result.now ≡ reason_text c.in-Err-from_zone_text.error = search rules in
    why_none c.in-Ok.origin _ c.in-Ok.ensures.found c.status_of_text.ensures c.if-status_of_text-eq-MEMORY.false e.refused e.why
    (rw same at c.put_text.ensures.ok ok, rw c.from-record_type.ensures.0 at c.fault_of.ensures)

pub returns-clause-buffer : goal.returns-clause-buffer
returns-clause-buffer c = λ full.
    let e = rw (c.as_ref.ensures.value, c.from-record_type.ensures.0) at c.in-Err-from_zone_text.ensures in
    let same : c.as_bytes.result.now ≡ reason_text c.in-Err-from_zone_text.error = search rules in
    why_none c.in-Ok.origin _ c.in-Ok.ensures.found c.status_of_text.ensures c.if-status_of_text-eq-MEMORY.false e.refused e.why
    (rw same at c.put_text.ensures.buffer full, rw c.from-record_type.ensures.0 at c.fault_of.ensures)
