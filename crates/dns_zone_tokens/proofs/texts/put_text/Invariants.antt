use Rattle.std.proofs.Common.{length}
use Rattle.dns_zone_tokens.proofs.LetterSteps.{PutSoFar}
use Rattle.dns_zone_tokens.proofs.texts.put_text.Given as goal

abbrev pub invariant-runs : goal.invariant-runs
invariant-runs l = PutSoFar l.fn.token.raw.now l.rest l.fn.octets.items l.octets.items

abbrev pub decreases-runs : goal.decreases-runs
decreases-runs l = length l.rest
