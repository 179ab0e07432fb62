use Rattle.std.proofs.Common.{take, Ok}
use Rattle.dns_names_wire.specs.Terms.{Extends}
use Rattle.dns_rdata_service.specs.Hints.{EmitsEach}
use Rattle.dns_rdata_service.proofs.svcb.ip_hint.emit_each.Given as goal

abbrev pub invariant-loop-item : goal.invariant-loop-item
invariant-loop-item g l = record {
  emitted : EmitsEach g.T.BinEncodable.emits (take l.item-index l.items) (Ok tt) l.initial.encoder l.encoder;
  extends : Extends l.initial.encoder l.encoder;
}
