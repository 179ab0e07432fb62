use Rattle.dns_rdata_base.proofs.a.AFromStr.from_str.Goals as goal

pub returns-in-Err : goal.returns-in-Err
returns-in-Err c = λ x h. c.in-Err.ensures.value x.0 h
