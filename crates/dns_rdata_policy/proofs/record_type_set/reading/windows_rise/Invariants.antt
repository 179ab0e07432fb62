use Rattle.std.proofs.Common.{ℕ, Bool, ◌≤◌, length}
use Rattle.dns_rdata_policy.proofs.Marks.{LeftBlocks}
use Rattle.dns_rdata_policy.proofs.record_type_set.reading.windows_rise.Given as goal

abbrev pub invariant-loop-rest : goal.invariant-loop-rest
invariant-loop-rest l = record {
  rest : (numbers : ℕ → Bool) × LeftBlocks l.octets l.rest numbers;
  small : l.least ≤ 256;
}

abbrev pub decreases-loop-rest : goal.decreases-loop-rest
decreases-loop-rest l = length l.rest
