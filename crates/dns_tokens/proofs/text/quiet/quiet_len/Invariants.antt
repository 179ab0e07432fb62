use Rattle.std.proofs.Common.{◌≤◌, ◌-◌, length}
use Rattle.dns_tokens.proofs.QuietSteps.{AreQuiet}
use Rattle.dns_tokens.proofs.text.quiet.quiet_len.Given as goal

-- what is before the index is quiet
abbrev pub invariant-parts : goal.invariant-parts
invariant-parts l = record {
  within : l.at ≤ length l.text;
  quiet : AreQuiet l.most l.b l.c l.text l.at;
}

abbrev pub decreases-parts : goal.decreases-parts
decreases-parts l = length l.text - l.at
