use Rattle.dns_zone_rows.proofs.TokenFaults.{no_name, no_span, some_span}
use Rattle.dns_zone_rows.proofs.faults.token_at_fault.Goals as goal

pub returns-in_err-index-clause-none : goal.returns-in_err-index-clause-none
returns-in_err-index-clause-none c =
    rw c.from_residual-in_err-index.ensures (no_name c.in_ok-zone_row.zone_row c.in_ok-name.ensures.some c.in_ok-zone_row.ensures.texts c.in_err-index.ensures.none)

pub returns-clause-some : goal.returns-clause-some
returns-clause-some c =
    some_span c.args.record_type c.args.text.now c.args.error.now c.in_ok-zone_row.zone_row c.in_ok-index.index c.token_span.result c.in_ok-name.ensures.some c.in_ok-zone_row.ensures.texts c.in_ok-index.ensures.some c.token_span.ensures.span

pub returns-clause-none : goal.returns-clause-none
returns-clause-none c =
    no_span c.args.record_type c.args.text.now c.args.error.now c.in_ok-zone_row.zone_row c.in_ok-index.index c.token_span.result c.in_ok-name.ensures.some c.in_ok-zone_row.ensures.texts c.in_ok-index.ensures.first c.token_span.ensures.span
