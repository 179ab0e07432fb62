use Rattle.std.proofs.Common.{length, ◌≤◌, ◌≡◌, ◌+◌}
use Rattle.dns_view.proofs.Puts.{Putting}
use Rattle.dns_view.proofs.put.put_name.Given as goal

abbrev pub invariant-runs : goal.invariant-runs
invariant-runs l = Putting l.message l.start l.end l.region l.offset l.next l.octets l.low l.fn.out l.out l.begin l.at × (l.end ≤ length l.message)
    × (l.at ≡ l.begin + l.octets) × (l.octets ≤ 254)

abbrev pub decreases-runs : goal.decreases-runs
decreases-runs l = l.offset
