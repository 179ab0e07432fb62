use Rattle.std.proofs.Common.{ap, arith}
use Rattle.dns_message.specs.State.{Asking}
use Rattle.dns_message.proofs.Asks.{asks_drain}
use Rattle.dns_message.proofs.message.MessageRef.questions.Goals as goal

pub returns-clause-begins : goal.returns-clause-begins
returns-clause-begins c =
    rw (← c.self.view_is) (record { header = c.header_of-header.result; is = c.header_of-header.ensures; state = c.questions_of.ensures })

pub returns-clause-all : goal.returns-clause-all
returns-clause-all c = asks_drain c.questions_of.result (omega (arith, ap (λ (s : Asking). s.passed) c.questions_of.ensures))
