use Rattle.std.proofs.Common.{◌≡◌, ◌+◌}
use Rattle.dns_canonical.proofs.count.Count.add.Given as goal

abbrev pub invariant-loop-i : goal.invariant-loop-i
invariant-loop-i l = l.self.n ≡ l.fn.self.n + l.i
