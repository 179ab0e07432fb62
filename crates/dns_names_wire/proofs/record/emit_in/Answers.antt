use Rattle.std.proofs.Common.{Ok}
use Rattle.dns_rows.specs.Table.{kinds_of}
use Rattle.dns_names_wire.proofs.FieldWrites.{emitted_as, emits_extend}
use Rattle.dns_names_wire.proofs.record.emit_in.Goals as goal

pub returns-clause-extends : goal.returns-clause-extends
returns-clause-extends g c = emits_extend _ _ _ (Ok tt) _ _
    (emitted_as (kinds_of g.T.Record.facts.row) (g.T.Record.facts.fields c.args.value.now) c.args.mode _ (Ok tt) _ _ _ _
    c.with_rdata_behavior-earlier.ensures.earlier c.with_rdata_behavior-earlier.ensures.set c.in_default.ensures.emits c.with_rdata_behavior-2.ensures.set)
