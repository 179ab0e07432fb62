use Rattle.dns_check.proofs.ByRow.{refused_at, refused_row, unless_given}
use Rattle.dns_check.proofs.reading.AnyRecordDataDecodable.read_data.Goals as goal

pub returns-in-Err-row_result : goal.returns-in-Err-row_result
returns-in-Err-row_result g c =
    let h = refused_at g.T.Record.facts.row c.row.ensures c.index-start.ensures.offset c.in-Err.ensures.reads.0 c.in-Err-row_result.ensures in
    record { region = refused_row _ _ _ _ _ h; refused = unless_given _ h.error; after_read = tt }
