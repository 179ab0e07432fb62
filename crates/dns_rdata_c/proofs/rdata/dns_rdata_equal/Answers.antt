use Rattle.dns_rdata_c.proofs.ViewCalls.{has_equality}
use Rattle.dns_rdata_c.proofs.rdata.dns_rdata_equal.Goals as goal

pub returns-then-order-eq0-clause-ok : goal.returns-then-order-eq0-clause-ok
returns-then-order-eq0-clause-ok c = λ ok. (has_equality (c.dns_rdata_compare-status.ensures.ok c.if-status-eq-OK.true)).0 c.if-order-eq0.true

pub returns-else-order-eq0-clause-ok : goal.returns-else-order-eq0-clause-ok
returns-else-order-eq0-clause-ok c = λ ok. (has_equality (c.dns_rdata_compare-status.ensures.ok c.if-status-eq-OK.true)).1 c.if-order-eq0.false
