use Rattle.dns_rdata.proofs.CursorSteps.{begins_at, begins_kept, begun}
use Rattle.dns_rdata.proofs.record_data.RData.canonical_octets.Goals as goal

pub new-requires-clause-at : goal.new-requires-clause-at
new-requires-clause-at c = λ t. begins_at c.args.self.now (c.is_emittable.ensures.0 t)

pub new-requires-clause-kept : goal.new-requires-clause-kept
new-requires-clause-kept c = λ t. begins_kept c.args.self.now

pub returns-clause-octets : goal.returns-clause-octets
returns-clause-octets c = rw c.new.ensures (begun _ _ c.is_emittable.ensures).0

pub returns-clause-options : goal.returns-clause-options
returns-clause-options c = rw c.new.ensures (begun _ _ c.is_emittable.ensures).1

pub returns-clause-all : goal.returns-clause-all
returns-clause-all c = rw c.new.ensures (begun _ _ c.is_emittable.ensures).2

pub returns-clause-windows : goal.returns-clause-windows
returns-clause-windows c = rw c.new.ensures (begun _ _ c.is_emittable.ensures).3
