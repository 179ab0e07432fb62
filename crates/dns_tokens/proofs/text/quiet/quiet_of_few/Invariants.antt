use Rattle.std.proofs.Common.{◌≤◌, ◌-◌, length}
use Rattle.dns_tokens.proofs.QuietSteps.{AreQuiet}
use Rattle.dns_tokens.proofs.text.quiet.quiet_of_few.Given as goal

-- what is before the index is quiet
abbrev pub invariant-octets : goal.invariant-octets
invariant-octets l = record {
  within : l.at ≤ length l.text;
  quiet : AreQuiet l.most l.b l.c l.text l.at;
}

abbrev pub decreases-octets : goal.decreases-octets
decreases-octets l = length l.text - l.at
