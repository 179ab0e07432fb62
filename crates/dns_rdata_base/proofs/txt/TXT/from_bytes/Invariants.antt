use Rattle.std.proofs.Common.{◌≡◌, map}
use Rattle.dns_rdata_base.proofs.txt.TXT.from_bytes.Given as goal

abbrev pub invariant-loop-string : goal.invariant-loop-string
invariant-loop-string l = l.strings.items ≡ map (λ s. s.now) l.yielded
