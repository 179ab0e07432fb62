use Rattle.std.proofs.Common.{length}
use Rattle.dns_zone_tokens.proofs.RemainingSteps.{TakenSoFar}
use Rattle.dns_zone_rows.proofs.StringTokens.{SomePut}
use Rattle.dns_zone_rows.proofs.remaining.add_strings.Given as goal

abbrev pub invariant-tokens : goal.invariant-tokens
invariant-tokens l = TakenSoFar (SomePut l.fn.octets.items l.octets.items) l.fn.tokens l.tokens

abbrev pub decreases-tokens : goal.decreases-tokens
decreases-tokens l = length l.tokens.text
