use Rattle.rdata_command.proofs.Words.{no_type, no_offset, no_length, no_octets}
use Rattle.rdata_command.proofs.request.parse.Goals as goal

pub returns-in_default-record_type : goal.returns-in_default-record_type
returns-in_default-record_type c = no_type c.in-Some.ensures c.in_default-record_type.ensures

pub returns-in_default-number : goal.returns-in_default-number
returns-in_default-number c = no_offset c.in-Some.ensures c.in_default-number.ensures

pub returns-in_default-short_number : goal.returns-in_default-short_number
returns-in_default-short_number c = no_length c.in-Some.ensures c.in_default-short_number.ensures

pub returns-in_default-2 : goal.returns-in_default-2
returns-in_default-2 c = no_octets c.in-Some.ensures (rw c.in_default-2.is at c.in_ok-message.ensures)
