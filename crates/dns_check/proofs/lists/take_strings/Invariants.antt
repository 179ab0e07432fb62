use Rattle.std.proofs.Common.{◌-◌}
use Rattle.dns_check.proofs.Strings.{Counted}
use Rattle.dns_check.proofs.lists.take_strings.Given as goal

abbrev pub invariant-strings : goal.invariant-strings
invariant-strings l = Counted l.fn.decoder l.end l.count l.walk

abbrev pub decreases-strings : goal.decreases-strings
decreases-strings l = l.end - l.walk.index
