use Rattle.rdata_command.proofs.Words.{type_read}
use Rattle.rdata_command.proofs.request.record_type.Goals as goal

pub returns-in-None : goal.returns-in-None
returns-in-None c = rw c.ok.ensures.value (type_read c.args.word.now c.parse.result c.parse.ensures.value.0 c.in-None.ensures)
