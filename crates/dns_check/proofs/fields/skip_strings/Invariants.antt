use Rattle.std.proofs.Common.{◌-◌}
use Rattle.dns_check.proofs.Strings.{On}
use Rattle.dns_check.proofs.fields.skip_strings.Given as goal

abbrev pub invariant-strings : goal.invariant-strings
invariant-strings l = On l.fn.walk l.end l.walk

abbrev pub decreases-strings : goal.decreases-strings
decreases-strings l = l.end - l.walk.index
