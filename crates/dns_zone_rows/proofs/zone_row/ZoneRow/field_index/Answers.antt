use Rattle.std.proofs.Common.{arith}
use Rattle.dns_zone_rows.proofs.FieldNames.{named_here, not_named, none_more, none_at_all}
use Rattle.dns_zone_rows.proofs.zone_row.ZoneRow.field_index.Goals as goal

pub returns-then-eq-clause-some : goal.returns-then-eq-clause-some
returns-then-eq-clause-some c =
    named_here c.args.self.now c.args.name.now c.name.result.now c.loop-index.index _ (omega arith) c.name.ensures.first c.if-eq.ensures

pub loop-index-preserved : goal.loop-index-preserved
loop-index-preserved c = none_more c.args.self.now c.args.name.now c.loop-index.index c.loop-index.invariant
    (not_named c.args.self.now c.args.name.now c.name.result.now c.loop-index.index _ (omega arith) c.name.ensures.first c.if-eq.ensures)

pub returns-clause-none : goal.returns-clause-none
returns-clause-none c = none_at_all c.args.self.now c.args.name.now c.loop-index.index c.loop-index.invariant (omega arith)
