use Rattle.std.proofs.Common.{◌∙◌, inl, inr, sym, arith}
use Rattle.std.proofs.lemmas.List.{take_rest}
use Rattle.dns_rdata_c.proofs.PartOctets.{parts_fill, truncated, damaged, same_part, same_few, no_value, no_parts}
use Rattle.dns_rdata_c.proofs.parts.dns_rdata_part.Goals as goal

pub returns-in_default-front_end-clause-refused : goal.returns-in_default-front_end-clause-refused
returns-in_default-front_end-clause-refused c = λ high. no_value (rw c.from-record_type.ensures.0 at (sym c.is_partless.ensures ∙ c.if-is_partless.false))
    (no_parts _ _ (rw (c.from-record_type.ensures.0, c.in-Some.ensures.1) at c.in_default-front_end.ensures))

pub returns-then-end-octets-clause-absent : goal.returns-then-end-octets-clause-absent
returns-then-end-octets-clause-absent c = λ is.
    let cut = truncated _ c.in-Some.ensures.2 (take_rest c.in-Some.octets.now c.walk_parts-found.result.1) c.in-Some-front_end.ensures c.walk_parts-found.ensures.parts in
    inr (c.in-Some.ensures.0, inr (rw (c.from-record_type.ensures.0, c.in-Some.ensures.1) at (cut (c.stub_status.ensures.cut is))))

pub returns-then-end-octets-clause-none : goal.returns-then-end-octets-clause-none
returns-then-end-octets-clause-none c = λ is v f.
    same_few (rw c.from-record_type.ensures.0 at (sym c.is_partless.ensures ∙ c.if-is_partless.false)) (returns-then-end-octets-clause-absent c is) f

pub returns-then-end-octets-clause-damaged : goal.returns-then-end-octets-clause-damaged
returns-then-end-octets-clause-damaged c = λ is. rw (c.from-record_type.ensures.0, c.in-Some.ensures.1) at
    (damaged _ c.in-Some.ensures.2 (take_rest c.in-Some.octets.now c.walk_parts-found.result.1) c.in-Some-front_end.ensures
    c.walk_parts-found.ensures.parts c.walk_parts-found.ensures.none c.if-end-octets.true (c.stub_status.ensures.damaged is))

pub returns-then-end-octets-clause-refused : goal.returns-then-end-octets-clause-refused
returns-then-end-octets-clause-refused c = λ high.
    no_value (rw c.from-record_type.ensures.0 at (sym c.is_partless.ensures ∙ c.if-is_partless.false))
    (returns-then-end-octets-clause-damaged c (omega (arith, high, c.stub_status.ensures.status)))

pub returns-then-end-octets-clause-front : goal.returns-then-end-octets-clause-front
returns-then-end-octets-clause-front c = λ is none.
    let some = rw (c.from-record_type.ensures.0, c.in-Some.ensures.1) at c.in-Some-front_end.ensures in
    let both = sym none ∙ some in absurd (cc both)

pub returns-in_default-found-clause-absent : goal.returns-in_default-found-clause-absent
returns-in_default-found-clause-absent c = λ is.
    let few = c.walk_parts-found.ensures.part _ _ (parts_fill c.in-Some-front_end.ensures c.walk_parts-found.ensures.parts c.if-end-octets.false) in
    inr (c.in-Some.ensures.0, inl (rw (c.from-record_type.ensures.0, c.in-Some.ensures.1, c.in_default-found.is) at few))

pub returns-in_default-found-clause-none : goal.returns-in_default-found-clause-none
returns-in_default-found-clause-none c = λ is v f.
    same_few (rw c.from-record_type.ensures.0 at (sym c.is_partless.ensures ∙ c.if-is_partless.false)) (returns-in_default-found-clause-absent c is) f

pub returns-clause-ok : goal.returns-clause-ok
returns-clause-ok c = λ is.
    let part = c.walk_parts-found.ensures.part _ _ (parts_fill c.in-Some-front_end.ensures c.walk_parts-found.ensures.parts c.if-end-octets.false) in
    record { within = c.in-Some.ensures.0; part = rw (c.from-record_type.ensures.0, c.in-Some.ensures.1, c.in-Some-found.is) at part }

pub returns-clause-same : goal.returns-clause-same
returns-clause-same c = λ is v f.
    same_part (rw c.from-record_type.ensures.0 at (sym c.is_partless.ensures ∙ c.if-is_partless.false)) (returns-clause-ok c is) f
