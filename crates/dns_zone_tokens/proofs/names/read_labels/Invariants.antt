use Rattle.std.proofs.Common.{[], length}
use Rattle.dns_zone_tokens.specs.NameSteps.{ReadSoFar}
use Rattle.dns_zone_tokens.proofs.names.read_labels.Given as goal

abbrev pub invariant-labels : goal.invariant-labels
invariant-labels l = ReadSoFar l.text l.rest l.wire.items []

abbrev pub decreases-labels : goal.decreases-labels
decreases-labels l = length l.rest
