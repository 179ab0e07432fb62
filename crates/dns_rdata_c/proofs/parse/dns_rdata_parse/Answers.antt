use Rattle.std.proofs.Common.{inl, inr, arith}
use Rattle.dns_rdata_c.proofs.ZoneReads.{own_data, put_again, never_refused}
use Rattle.dns_rdata_c.proofs.parse.dns_rdata_parse.Goals as goal

pub returns-in-Err-read_zone_text-clause-never : goal.returns-in-Err-read_zone_text-clause-never
returns-in-Err-read_zone_text-clause-never c = λ high. elim c.in-Err-read_zone_text.ensures.refused [
  | inl memory ↦ absurd (omega (arith, high, memory))
  | inr refused ↦ rw c.from.ensures.0 at (never_refused _ _ _ refused.1.none)
]

pub returns-clause-reads : goal.returns-clause-reads
returns-clause-reads c = λ ok. own_data c.type_inv.out
    (c.in-Ok.origin, c.in-Ok.ensures.found, rw (c.as_ref.ensures.value, c.from.ensures.0) at c.in-Ok-read_zone_text.ensures.found) (c.put_wire.ensures.ok ok)

pub returns-clause-again : goal.returns-clause-again
returns-clause-again c = λ ok. put_again
    (c.in-Ok.origin, c.in-Ok.ensures.found, rw (c.as_ref.ensures.value, c.from.ensures.0) at c.in-Ok-read_zone_text.ensures.found) (c.put_wire.ensures.ok ok)
