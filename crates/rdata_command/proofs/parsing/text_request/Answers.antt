use Rattle.rdata_command.proofs.Words.{no_text_type}
use Rattle.rdata_command.proofs.parsing.text_request.Goals as goal

pub returns-in_default-record_type : goal.returns-in_default-record_type
returns-in_default-record_type c = no_text_type c.in-Some.ensures c.in_default-record_type.ensures
