use Rattle.std.proofs.Common.{◌≡◌, true, not, ◌==◌, take}
use Rattle.std.specs.List.{list_all}
use Rattle.dns_rdata_policy.proofs.caa.issuer.cut_at.Given as goal

abbrev pub invariant-loop-octet : goal.invariant-loop-octet
invariant-loop-octet l = (l.len ≡ l.octet-index) × (list_all (λ c. not (c == l.stop)) (take l.octet-index l.octets) ≡ true)
