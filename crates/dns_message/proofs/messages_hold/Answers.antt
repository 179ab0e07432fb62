use Rattle.dns_message.proofs.Examples.{message_examples}
use Rattle.dns_message.proofs.messages_hold.Goals as goal

pub returns : goal.returns
returns c = message_examples
