use Rattle.std.proofs.Common.{◌≤◌, length}
use Rattle.dns_message.specs.Starts.{FoundWithin}
use Rattle.dns_message.proofs.records.skip_records.Given as goal

abbrev pub invariant-loop-passed : goal.invariant-loop-passed
invariant-loop-passed l = FoundWithin l.message l.start l.passed l.fn.left l.left l.offset × (l.offset ≤ length l.message)
