use Rattle.std.proofs.Common.{◌≡◌, map}
use Rattle.std.specs.String.{string_bytes}
use Rattle.dns_rdata_service.proofs.svcb.alpn.Alpn.new.Given as goal

abbrev pub invariant-loop-name : goal.invariant-loop-name
invariant-loop-name l = l.strings.items ≡ map string_bytes l.yielded
