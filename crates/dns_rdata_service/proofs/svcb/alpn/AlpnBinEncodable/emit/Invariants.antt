use Rattle.std.proofs.Common.{take, Ok}
use Rattle.dns_fields.specs.declared.Kind.{TheVariants.CharacterString}
use Rattle.dns_names_wire.specs.Terms.{EmitsField}
use Rattle.dns_rdata_service.specs.Hints.{EmitsEach}
use Rattle.dns_rdata_service.proofs.svcb.alpn.AlpnBinEncodable.emit.Given as goal

abbrev pub invariant-loop-name : goal.invariant-loop-name
invariant-loop-name l = EmitsEach (λ s r w n. EmitsField CharacterString s r w n) (take l.name-index l.name-items) (Ok tt) l.initial.encoder l.encoder
