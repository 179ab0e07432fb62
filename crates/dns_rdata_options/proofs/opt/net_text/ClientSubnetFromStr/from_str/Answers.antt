use Rattle.dns_rdata_options.proofs.opt.net_text.ClientSubnetFromStr.from_str.Goals as goal

pub returns-in-Err : goal.returns-in-Err
returns-in-Err c = λ x is. c.in-Err.ensures.value (x.address, x.source_prefix) is.0
