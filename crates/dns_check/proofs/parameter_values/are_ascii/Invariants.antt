use Rattle.std.proofs.Common.{ℕ, ◌<◌, get_or}
use Rattle.dns_check.proofs.parameter_values.are_ascii.Given as goal

abbrev pub invariant-loop-octet : goal.invariant-loop-octet
invariant-loop-octet l = (i : ℕ) → i < l.octet-index → get_or l.octets i 0 < 128
