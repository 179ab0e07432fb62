use Rattle.std.proofs.Common.{◌≡◌, length}
use Rattle.dns_zone_tokens.specs.Tokens.{over, tokens_read_from}
use Rattle.dns_zone_tokens.proofs.tokens.line_is_over.Given as goal

abbrev pub invariant-gaps : goal.invariant-gaps
invariant-gaps l = tokens_read_from over l.text ≡ tokens_read_from over l.rest

abbrev pub decreases-gaps : goal.decreases-gaps
decreases-gaps l = length l.rest
