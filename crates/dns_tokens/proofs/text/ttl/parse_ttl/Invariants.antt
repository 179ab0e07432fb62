use Rattle.std.proofs.Common.{length}
use Rattle.std.specs.Str.{IsUtf8}
use Rattle.dns_tokens.proofs.TtlSteps.{PeriodsFirst}
use Rattle.dns_tokens.proofs.text.ttl.parse_ttl.Given as goal

-- the total is what the periods so far give
abbrev pub invariant-periods : goal.invariant-periods
invariant-periods l = PeriodsFirst l.total l.text l.rest × IsUtf8 l.rest

abbrev pub decreases-periods : goal.decreases-periods
decreases-periods l = length l.rest
