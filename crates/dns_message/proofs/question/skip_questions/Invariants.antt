use Rattle.std.proofs.Common.{◌≤◌, length}
use Rattle.dns_message.specs.Starts.{AskedWithin}
use Rattle.dns_message.proofs.question.skip_questions.Given as goal

abbrev pub invariant-loop-index : goal.invariant-loop-index
invariant-loop-index l = AskedWithin l.message l.index l.fn.left l.left l.offset × (l.offset ≤ length l.message)
