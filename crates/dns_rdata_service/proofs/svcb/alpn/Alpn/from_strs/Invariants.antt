use Rattle.std.proofs.Common.{◌≡◌, map, take}
use Rattle.dns_rdata_service.proofs.svcb.alpn.Alpn.from_strs.Given as goal

abbrev pub invariant-loop-name : goal.invariant-loop-name
invariant-loop-name l = l.strings.items ≡ map (λ name. name.now) (take l.name-index l.names)
