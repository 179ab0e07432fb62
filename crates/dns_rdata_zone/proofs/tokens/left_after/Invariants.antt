use Rattle.std.proofs.Common.{◌≡◌, ◌+◌, ◌-◌, ◌*◌}
use Rattle.dns_rdata_zone.specs.Tokens.{left_after}
use Rattle.dns_rdata_zone.proofs.tokens.left_after.Given as goal

abbrev pub decreases-tokens : goal.decreases-tokens
decreases-tokens l = l.count + (510 - l.left)

abbrev pub invariant-tokens : goal.invariant-tokens
invariant-tokens l = left_after (2 * l.left) (2 * l.count) ≡ left_after (2 * l.fn.left) (2 * l.fn.count)
