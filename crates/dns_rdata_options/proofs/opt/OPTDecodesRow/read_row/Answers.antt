use Rattle.dns_check.proofs.CheckedFirst.{row_reads}
use Rattle.dns_rdata_options.specs.OPT.{opt_facts}
use Rattle.dns_rdata_options.proofs.OptionLists.{opt_row}
use Rattle.dns_rdata_options.proofs.opt.OPTDecodesRow.read_row.Goals as goal

pub returns-in_ok-whole_options-in-Some-clause-reads : goal.returns-in_ok-whole_options-in-Some-clause-reads
returns-in_ok-whole_options-in-Some-clause-reads c =
    let h = c.in-Some.ensures.took in
    row_reads opt_facts _ tt h.there (opt_row h.there h.slice c.in_ok-whole_options-in-Some.ensures.made)

pub returns-in-None-clause-after_read : goal.returns-in-None-clause-after_read
returns-in-None-clause-after_read c = rw (c.in-None.ensures.unchanged) at c.read_cut.ensures.after_read
