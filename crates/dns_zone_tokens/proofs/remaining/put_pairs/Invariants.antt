use Rattle.std.proofs.Common.{length}
use Rattle.dns_zone_tokens.proofs.{HexTokens.HexSoFar, RemainingSteps.TakenSoFar}
use Rattle.dns_zone_tokens.proofs.remaining.put_pairs.Given as goal

abbrev pub invariant-tokens : goal.invariant-tokens
invariant-tokens l = TakenSoFar (HexSoFar l.fn.octets.items l.octets.items) l.fn.tokens l.tokens

abbrev pub decreases-tokens : goal.decreases-tokens
decreases-tokens l = length l.tokens.text
