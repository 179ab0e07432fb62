use Rattle.dns_check.proofs.CheckedFirst.{row_reads}
use Rattle.dns_rdata_options.specs.OPT.{opt_facts}
use Rattle.dns_rdata_options.proofs.OptionLists.{opt_row}
use Rattle.dns_rdata_options.proofs.opt.reading.read_cut.Goals as goal

pub returns-in_ok-options_in-in-Ok-clause-reads : goal.returns-in_ok-options_in-in-Ok-clause-reads
returns-in_ok-options_in-in-Ok-clause-reads c =
    let h = c.in-Ok.ensures.there in
    row_reads opt_facts _ tt h (opt_row h c.in-Ok.ensures.octets c.in_ok-options_in-in-Ok.ensures.made)
