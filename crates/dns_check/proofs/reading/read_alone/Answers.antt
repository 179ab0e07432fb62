use Rattle.std.proofs.Common.{◌≡◌, false, true, Ok}
use Rattle.dns_rows.specs.{Table.kinds_of, Rules.MeetsRow}
use Rattle.dns_names_wire.proofs.RegionReads.{fields_by}
use Rattle.dns_check.proofs.ByRow.{refused_at, refuses_alone}
use Rattle.dns_check.proofs.reading.read_alone.Goals as goal

pub returns-in-Ok-clause-reads : goal.returns-in-Ok-clause-reads
returns-in-Ok-clause-reads g c = fields_by (kinds_of g.T.Record.facts.row) (MeetsRow g.T.Record.facts.row) g.T.Record.facts.fields (Ok c.in-Ok.x) c.args.decoder.now c.read_fields.new.decoder c.in-Ok.ensures.fields

pub returns-in-Err-row_result-clause-reads : goal.returns-in-Err-row_result-clause-reads
returns-in-Err-row_result-clause-reads g c = (refuses_alone g.T.Record.facts _ _ c.in-Err.e _ _ _ g.met.T.DecodesFields.alone (λ q. let z : false ≡ true = c.if-is_memory.ensures.1 q in absurd cc) c.in-Err.ensures.fields
    (refused_at g.T.Record.facts.row c.row.ensures c.index-start.ensures.offset c.in-Err.ensures.fields.behind c.in-Err-row_result.ensures)).0

pub returns-in-Err-row_result-clause-why : goal.returns-in-Err-row_result-clause-why
returns-in-Err-row_result-clause-why g c = (refuses_alone g.T.Record.facts _ _ c.in-Err.e _ _ _ g.met.T.DecodesFields.alone (λ q. let z : false ≡ true = c.if-is_memory.ensures.1 q in absurd cc) c.in-Err.ensures.fields
    (refused_at g.T.Record.facts.row c.row.ensures c.index-start.ensures.offset c.in-Err.ensures.fields.behind c.in-Err-row_result.ensures)).1
