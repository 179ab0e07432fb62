use Rattle.dns_check.proofs.ByRow.{reads_behind}
use Rattle.dns_check.proofs.reading.read_whole.Goals as goal

pub returns-clause-refused : goal.returns-clause-refused
returns-clause-refused g c =
    let b = reads_behind g.T.Record.facts c.args.length c.read_row-outcome.result c.args.decoder.now c.read_row-outcome.new.decoder c.read_row-outcome.ensures.reads in
    rw (b.message, c.index-start.ensures.offset) at c.of_length.ensures.refused

pub returns-clause-why : goal.returns-clause-why
returns-clause-why g c =
    let b = reads_behind g.T.Record.facts c.args.length c.read_row-outcome.result c.args.decoder.now c.read_row-outcome.new.decoder c.read_row-outcome.ensures.reads in
    rw (b.message, c.index-start.ensures.offset) at c.of_length.ensures.why
