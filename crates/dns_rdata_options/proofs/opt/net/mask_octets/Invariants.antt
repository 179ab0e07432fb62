use Rattle.std.proofs.Common.{◌≡◌, ℕ, ◌-◌, ◌*◌, ◌<◌, ◌≤◌, length, get_or}
use Rattle.dns_rdata_options.specs.IpNet.{masked_octet}
use Rattle.dns_rdata_options.proofs.opt.net.mask_octets.Given as goal

-- the octets in front of index i are masked, and the others as they were
abbrev pub invariant-loop-i : goal.invariant-loop-i
invariant-loop-i l = record {
  size : length l.octets ≡ length l.fn.octets;
  done : (k : ℕ) → k < l.i → get_or l.octets k 0 ≡ masked_octet (l.bits - 8 * k) (get_or l.fn.octets k 0);
  rest : (k : ℕ) → l.i ≤ k → get_or l.octets k 0 ≡ get_or l.fn.octets k 0;
  left : l.left ≡ l.bits - 8 * l.i;
}
