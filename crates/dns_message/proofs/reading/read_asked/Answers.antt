use Rattle.std.proofs.Common.{arith}
use Rattle.dns_message.proofs.Fields.{asked_found, short_asked, ends_after}
use Rattle.dns_message.proofs.reading.read_asked.Goals as goal

pub returns-then-left-lt-AFTER_NAME-clause-none : goal.returns-then-left-lt-AFTER_NAME-clause-none
returns-then-left-lt-AFTER_NAME-clause-none c = short_asked c.requires.name (omega arith)

pub returns-then-left-lt-AFTER_NAME-clause-fault : goal.returns-then-left-lt-AFTER_NAME-clause-fault
returns-then-left-lt-AFTER_NAME-clause-fault c = ends_after 4 c.requires.name (omega arith)

pub returns-clause-found : goal.returns-clause-found
returns-clause-found c = asked_found c.requires.name c.number_at-query_type.ensures c.number_at-class.ensures
