use Rattle.std.proofs.Common.{length}
use Rattle.dns_zone_tokens.specs.Remaining.{AreJoined}
use Rattle.dns_zone_tokens.proofs.RemainingSteps.{TakenSoFar}
use Rattle.dns_zone_tokens.proofs.remaining.all_joined.Given as goal

abbrev pub invariant-tokens : goal.invariant-tokens
invariant-tokens l = TakenSoFar (AreJoined l.joined.items) l.fn.tokens l.tokens

abbrev pub decreases-tokens : goal.decreases-tokens
decreases-tokens l = length l.tokens.text
