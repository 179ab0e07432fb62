use Rattle.std.proofs.Common.{◌≡◌, length, drop, map}
use Rattle.std.specs.List.{AllByRecursion}
use Rattle.dns_rdata_service.proofs.hints.hints_size.Given as goal

abbrev pub invariant-loop-address : goal.invariant-loop-address
invariant-loop-address g l =
    AllByRecursion (λ s. length s ≡ g.row.N) (map g.T.Address.octets (drop l.address-index l.addresses))
    → AllByRecursion (λ s. length s ≡ g.row.N) (map g.T.Address.octets l.addresses)
