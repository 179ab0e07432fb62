use Rattle.rdata_command.proofs.Words.{no_order_type, no_left, no_right}
use Rattle.rdata_command.proofs.comparing.order_request.Goals as goal

pub returns-in_default-record_type : goal.returns-in_default-record_type
returns-in_default-record_type c = no_order_type c.in-Some.ensures c.in_default-record_type.ensures

pub returns-in_default-2 : goal.returns-in_default-2
returns-in_default-2 c = no_left c.in-Some.ensures (rw c.in_default-2.is at c.in_ok-left.ensures)

pub returns-in_default-3 : goal.returns-in_default-3
returns-in_default-3 c = no_right c.in-Some.ensures (rw c.in_default-3.is at c.in_ok-right.ensures)
